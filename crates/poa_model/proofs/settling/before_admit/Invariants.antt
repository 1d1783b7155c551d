use Rattle.std.proofs.Common.{◌≡◌, take, reverse}
use Rattle.poa_history.specs.Settling as settling
use Rattle.poa_model.proofs.settling.before_admit.Given as goal

abbrev pub invariant-loop-i : goal.invariant-loop-i
invariant-loop-i l = reverse l.before ≡ settling.before_admit (reverse (take l.i l.history)) l.arrival
