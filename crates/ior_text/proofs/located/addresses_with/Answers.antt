use Rattle.std.proofs.Common.{arith}
use Rattle.ior_text.proofs.Locations.{are_further, none_are}
use Rattle.ior_text.proofs.located.addresses_with.Goals as goal

pub returns-in_default : goal.returns-in_default
returns-in_default c =
    none_are c.args.key.now c.args.profiles.now c.loop-profile.profile-index c.profile-item.result (omega arith) c.profile-item.is
    (rw c.in_default.is at c.in_ok-address.ensures)

pub loop-profile-preserved : goal.loop-profile-preserved
loop-profile-preserved c =
    rw c.in_ok-push.ensures.ok
    (are_further c.args.key.now _ c.args.profiles.now c.loop-profile.profile-index _ c.profile-item.result (omega arith)
    c.profile-item.is c.loop-profile.invariant (rw c.in-Some.is at c.in_ok-address.ensures))
