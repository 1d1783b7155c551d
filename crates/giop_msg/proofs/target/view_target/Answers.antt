-- The disposition was read, and the address behind it.
use Rattle.ior_text.proofs.Refused.{on_err}
use Rattle.giop_msg.proofs.Targets.{no_target_behind}
use Rattle.giop_msg.proofs.target.view_target.Goals as goal

pub returns-in_err-target-clause-bad : goal.returns-in_err-target-clause-bad
returns-in_err-target-clause-bad c =
    on_err _ (no_target_behind _ _ _ c.in_ok-disposition.ensures.ok c.in_err-target.ensures.bad)
