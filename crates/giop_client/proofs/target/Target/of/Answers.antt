-- A profile that tells no target is passed.
use Rattle.std.proofs.Common.{None, arith}
use Rattle.giop_client.specs.Target.{MayReach}
use Rattle.giop_client.proofs.Targets.{passed_on}
use Rattle.giop_client.proofs.target.Target.of.Goals as goal

pub loop-profile-preserved : goal.loop-profile-preserved
loop-profile-preserved c =
    let none : MayReach c.profile-item.result None = rw c.in_default.is at c.in_ok-target.ensures.target in
    passed_on c.args.reference.now.profiles _ c.loop-profile.profile-index c.profile-item.result c.as_slice-profile-items.ensures (omega arith)
    c.profile-item.is c.loop-profile.invariant none
