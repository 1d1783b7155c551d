-- One more profile is written behind the others.
use Rattle.std.proofs.Common.{ap, sym, ◌∙◌}
use Rattle.ior_text.specs.Written.{with_profile}
use Rattle.ior_text.proofs.Pushing.{with_profiles-more, profile_written}
use Rattle.naming_context.proofs.replying.put_profiles.Goals as goal

pub loop-profile-preserved : goal.loop-profile-preserved
loop-profile-preserved c =
    profile_written c.profile-item.result _ _ _ _ c.in_ok-ulong.ensures.ok c.as_slice.ensures c.in_ok-put_octets.ensures.ok
    ∙ ap (with_profile c.profile-item.result) c.loop-profile.invariant
    ∙ sym (with_profiles-more _ _ _ _ c.loop-profile-test.true c.profile-item.is)
