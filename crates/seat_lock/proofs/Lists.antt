-- Lemmas on lists that are read by position, passed on so that a crate above can cite them.
pub use Rattle.atomic_table.proofs.Lists.{at_set, at_index, set_here, set_else, set_again, at_longer, at_last, at_snoc, drop_at, at_map, some_there, one_turn}
