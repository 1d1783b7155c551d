use Rattle.std.proofs.Common.{◌≡◌, ◌++◌, map, take}
use Rattle.core_settings.proofs.managers.add_starts.Given as goal

abbrev pub invariant-loop-manager : goal.invariant-loop-manager
invariant-loop-manager l = l.states.items ≡ l.initial.states.items ++ map (λ m. m.start) (take l.manager-index l.managers)
