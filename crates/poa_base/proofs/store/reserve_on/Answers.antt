use Rattle.std.proofs.Common.{sym, ◌∙◌}
use Rattle.poa_base.proofs.Shelves.{kept_slot}
use Rattle.poa_base.proofs.store.reserve_on.Goals as goal

pub returns-then-contains_key-clause-ok : goal.returns-then-contains_key-clause-ok
returns-then-contains_key-clause-ok c = kept_slot _ _ (sym c.contains_key.ensures ∙ c.if-contains_key.true)
