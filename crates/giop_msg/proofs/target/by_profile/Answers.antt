-- The profile was read, and its key.
use Rattle.std.proofs.Common.{refl}
use Rattle.ior_text.specs.Seen.{seen_profile}
use Rattle.giop_msg.specs.Target.{by_profile}
use Rattle.ior_text.proofs.Refused.{on_err}
use Rattle.giop_msg.proofs.Targets.{no_profile}
use Rattle.giop_msg.proofs.target.by_profile.Goals as goal

pub returns-in_err-profile-clause-bad : goal.returns-in_err-profile-clause-bad
returns-in_err-profile-clause-bad c = on_err _ (no_profile _ _ c.in_err-profile.ensures.bad)

pub returns-clause-ok : goal.returns-clause-ok
returns-clause-ok c = record {
  object = by_profile (seen_profile c.in_ok-profile.profile);
  is = refl;
  read = c.in_ok-profile.ensures.ok;
  gives = c.view_key.ensures.key;
}
