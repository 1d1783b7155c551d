use Rattle.std.proofs.Common.{◌≡◌, take}
use Rattle.naming_context.proofs.acting.not_found.Given as goal

abbrev pub invariant-loop-component : goal.invariant-loop-component
invariant-loop-component l = l.copy ≡ take l.component-index l.rest
