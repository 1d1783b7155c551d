use Rattle.std.proofs.Common.{◌≡◌, option_copied, take, reverse}
use Rattle.poa_base.specs.Store.{stored as stored_at_opening}
use Rattle.poa_model.specs.Kept as keeps
use Rattle.poa_model.proofs.kept.stored_in.Given as goal

abbrev pub invariant-loop-left : goal.invariant-loop-left
invariant-loop-left l = option_copied l.found ≡ keeps.stored_in (stored_at_opening l.store) (reverse (take l.left-index l.places)) l.path l.oid
