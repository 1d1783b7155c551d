use Rattle.std.proofs.Common.{◌≡◌, take, reverse}
use Rattle.history_standing.specs.Stages as begun
use Rattle.poa_history.proofs.workers.admitted.Given as goal

abbrev pub invariant-loop-i : goal.invariant-loop-i
invariant-loop-i l = begun.admitted (reverse (take l.i l.history)) l.arrival ≡ begun.admitted (reverse l.history) l.arrival
