use Rattle.std.proofs.Common.{◌≡◌, map, take}
use Rattle.core_state.proofs.starting.configured.Given as goal

abbrev pub invariant-loop-servant : goal.invariant-loop-servant
invariant-loop-servant l = l.servants.items ≡ map (λ s. s.state) (take l.servant-index l.config.servants)
