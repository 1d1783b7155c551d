use Rattle.std.proofs.Common.{ap, subst, sym, ◌∙◌, rules, List, ℕ, length, ◌<◌, ◌^◌}
use Rattle.hex.specs.Hex.{IsBytes}
use Rattle.std.proofs.lemmas.List.Elements.{All-more}
use Rattle.ior_text.specs.Written.{with_profile, IsProfile}
use Rattle.ior_text.proofs.Pushing.{with_profiles-more, profile_written}
use Rattle.ior_text.proofs.writing.write_profiles.Goals as goal

pub loop-profile-preserved : goal.loop-profile-preserved
loop-profile-preserved c = record {
  written =
      profile_written c.profile-item.result _ _ _ _ c.in_ok-ulong-2.ensures.ok c.as_slice.ensures c.in_ok-write_octets.ensures.written
      ∙ ap (with_profile c.profile-item.result) c.loop-profile.invariant.written
      ∙ sym (with_profiles-more _ _ _ _ c.loop-profile-test.true c.profile-item.is);
  profiles =
      All-more IsProfile c.args.profiles.now c.loop-profile.profile-index c.profile-item.result c.loop-profile-test.true c.loop-profile.invariant.profiles
      (subst IsProfile c.profile-item.is (record {
        tag = search rules;
        len = subst (λ (b : List ℕ). length b < 2 ^ 32) c.as_slice.ensures c.in_ok-write_octets.ensures.fits;
        bytes = subst IsBytes c.as_slice.ensures c.in_ok-write_octets.ensures.bytes;
      }));
}
