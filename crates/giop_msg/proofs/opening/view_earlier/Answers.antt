-- Each part was read where the one before it ends.
use Rattle.ior_text.proofs.Refused.{on_err}
use Rattle.giop_msg.proofs.Openings.{no_earlier_contexts, no_earlier_asked, no_earlier_reserved}
use Rattle.giop_msg.proofs.opening.view_earlier.Goals as goal

pub returns-in_err-pass_counted-clause-bad : goal.returns-in_err-pass_counted-clause-bad
returns-in_err-pass_counted-clause-bad c = on_err _ (no_earlier_contexts _ _ c.in_err-pass_counted.ensures.bad)

pub returns-in_err-opening-clause-bad : goal.returns-in_err-opening-clause-bad
returns-in_err-opening-clause-bad c = on_err _ (no_earlier_asked _ _ _ c.in_ok-pass_counted.ensures.ok c.in_err-opening.ensures.bad)

pub returns-in_err-pass_reserved-clause-bad : goal.returns-in_err-pass_reserved-clause-bad
returns-in_err-pass_reserved-clause-bad c =
    on_err _ (no_earlier_reserved _ _ _ _ _ _ c.in_ok-pass_counted.ensures.ok c.in_ok-opening.ensures.ok c.in_err-pass_reserved.ensures.bad)
