use Rattle.std.proofs.Common.{◌≡◌, take, reverse}
use Rattle.history_standing.specs.Situations as situations
use Rattle.poa_model.proofs.crowded.is_crowded.Given as goal

abbrev pub invariant-loop-i : goal.invariant-loop-i
invariant-loop-i l = l.crowded ≡ situations.is_crowded (reverse (take l.i l.history)) l.arrival
