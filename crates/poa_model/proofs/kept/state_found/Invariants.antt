use Rattle.std.proofs.Common.{◌≡◌, option_copied, take, reverse}
use Rattle.std.specs.Prelude.{unwrap_or}
use Rattle.poa_base.specs.declared.State.TheVariants.{Fault}
use Rattle.poa_model.specs.Kept as keeps
use Rattle.poa_model.proofs.kept.state_found.Given as goal

abbrev pub invariant-loop-left : goal.invariant-loop-left
invariant-loop-left l = unwrap_or (option_copied l.found) Fault ≡ keeps.state_in l.config (reverse (take l.left-index l.servants)) l.servant
