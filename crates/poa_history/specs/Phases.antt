-- How far a run has come.
use Rattle.std.specs.Prelude.{ℕ, Bool, true, false, List, [], ◌∷◌, Option, Some, None}
use Rattle.std.specs.Option.{option_or}
use Rattle.poa_base.specs.declared.Entry.{Entry}
use Rattle.poa_base.specs.declared.Entry.TheVariants.{Abandon}
use Rattle.poa_history.specs.Legal.{is_filled}
use Rattle.poa_history.specs.declared.phase.Phase.{Phase}
use Rattle.poa_history.specs.declared.phase.Phase.TheVariants.{Running, Full, Shut, Abandoned}
use Rattle.poa_history.specs.Leaving.{is_shut}

-- the worker that gave the run up first
abbrev pub first_abandoned : List Entry → Option ℕ
first_abandoned [] = None
first_abandoned (Abandon w ∷ past) = option_or (first_abandoned past) (Some w)
first_abandoned (e ∷ past) = first_abandoned past

-- the phase of a run that was abandoned first by this worker, to which a `shutdown` was admitted, and that was filled
abbrev pub phase_by : Option ℕ → Bool → Bool → Phase
phase_by (Some w) shut filled = Abandoned w
phase_by None true filled = Shut
phase_by None false true = Full
phase_by None false false = Running

-- abandoned where a worker gave it up; else shut where a `shutdown` was admitted; else full where a call was refused for the limits
abbrev pub phase_of : List Entry → Phase
phase_of h = phase_by (first_abandoned h) (is_shut h) (is_filled h)
