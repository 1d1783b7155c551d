-- Each turn reads one more profile.
use Rattle.std.proofs.Common.{ap, arith, inl, inr}
use Rattle.std.specs.Prelude.{option_map}
use Rattle.ior_text.specs.Seen.{seen_profile}
use Rattle.ior_text.proofs.Refused.{on_err}
use Rattle.ior_text.proofs.Lists.{sees_none, sees_next, stops_among}
use Rattle.ior_text.proofs.seen_reference.view_profiles.Goals as goal
use Rattle.ior_text.proofs.seen_reference.view_profiles.Goals.{then-i-index, else-i-index}

pub loop-i-init : goal.loop-i-init
loop-i-init c = sees_none c.args.index c.args.view.now

pub returns-in_err-profile-clause-bad : goal.returns-in_err-profile-clause-bad
returns-in_err-profile-clause-bad c =
    on_err _ (stops_among _ _ _ _ _ _ _ c.loop-i-test.true c.loop-i.invariant c.in_err-profile.ensures.bad)

pub loop-i-preserved : goal.loop-i-preserved
loop-i-preserved c =
    elim c.if-i-index.branch [
      | then-i-index w ↦ sees_next _ _ _ _ _ _ _ _
          (inl (omega (arith, w.if-i-index), ap (option_map seen_profile) w.found-is)) c.loop-i.invariant c.in_ok-profile.ensures.ok
      | else-i-index w ↦ sees_next _ _ _ _ _ _ _ _
          (inr (λ same. omega (arith, same, w.if-i-index), ap (option_map seen_profile) w.found-is)) c.loop-i.invariant c.in_ok-profile.ensures.ok
    ]
