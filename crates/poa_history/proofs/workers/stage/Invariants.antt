use Rattle.std.proofs.Common.{◌≡◌, take, reverse}
use Rattle.history_standing.specs.Stages as begun
use Rattle.poa_history.proofs.workers.stage.Given as goal

abbrev pub invariant-loop-entry : goal.invariant-loop-entry
invariant-loop-entry l = l.stage ≡ begun.stage (reverse (take l.entry-index l.history)) l.worker
