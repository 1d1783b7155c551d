use Rattle.giop_client.proofs.Targets.{Passed}
use Rattle.giop_client.proofs.target.Target.of.Given as goal

abbrev pub invariant-loop-profile : goal.invariant-loop-profile
invariant-loop-profile l = Passed l.reference.profiles l.profile-index
