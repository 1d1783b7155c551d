use Rattle.std.proofs.Common.{◌≡◌, map, drop}
use Rattle.toml.specs.View.{table_view}
use Rattle.conf_fields.specs.Look.{none_of as the_none_of}
use Rattle.conf_fields.proofs.tables.none_of.Given as goal

abbrev pub invariant-loop-key : goal.invariant-loop-key
invariant-loop-key l =
    the_none_of (map (λ k. k.now) (drop l.key-index l.keys)) l.at (table_view l.table) ≡ the_none_of (map (λ k. k.now) l.keys) l.at (table_view l.table)
