-- The index and the reference were read, and the key at that index.
use Rattle.ior_text.proofs.Refused.{on_err}
use Rattle.giop_msg.proofs.Targets.{no_reference, key_in_reference, none_in_reference}
use Rattle.giop_msg.proofs.target.by_reference.Goals as goal

pub returns-in_err-profile-clause-bad : goal.returns-in_err-profile-clause-bad
returns-in_err-profile-clause-bad c =
    on_err _ (no_reference c.in_ok-index.index _ _ _ c.in_ok-index.ensures.ok c.in_err-profile.ensures.bad)

pub returns-in-Some-clause-ok : goal.returns-in-Some-clause-ok
returns-in-Some-clause-ok c =
    key_in_reference _ _ _ _ _ _ _ c.in_ok-index.ensures.ok c.in_ok-profile.ensures.ok c.in-Some.is c.view_key.ensures.key

pub returns-in-None-clause-ok : goal.returns-in-None-clause-ok
returns-in-None-clause-ok c = none_in_reference _ _ _ _ _ c.in_ok-index.ensures.ok c.in_ok-profile.ensures.ok c.in-None.is
