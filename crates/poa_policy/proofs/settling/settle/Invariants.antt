use Rattle.poa_policy.proofs.Turns.{Reached}
use Rattle.poa_policy.proofs.settling.settle.Given as goal

abbrev pub invariant-loop-i : goal.invariant-loop-i
invariant-loop-i l = Reached l.list l.i l.set l.filled
