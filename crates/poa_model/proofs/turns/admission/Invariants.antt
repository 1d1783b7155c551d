use Rattle.std.proofs.Common.{◌≡◌, reverse}
use Rattle.history_standing.specs.Searches.{first_given}
use Rattle.poa_history.specs.Turns as turns
use Rattle.poa_model.proofs.turns.admission.Given as goal

abbrev pub invariant-loop-arrival : goal.invariant-loop-arrival
invariant-loop-arrival l = l.found ≡ first_given (turns.admission_of l.run.config.now l.run.number (reverse l.history) l.worker) l.arrival
