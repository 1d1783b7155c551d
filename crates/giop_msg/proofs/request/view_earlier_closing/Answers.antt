-- The operation was read, and the principal behind it.
use Rattle.ior_text.proofs.Refused.{on_err}
use Rattle.giop_msg.proofs.Closings.{no_earlier_operation, no_principal}
use Rattle.giop_msg.proofs.request.view_earlier_closing.Goals as goal

pub returns-in_err-name-clause-bad : goal.returns-in_err-name-clause-bad
returns-in_err-name-clause-bad c = on_err _ (no_earlier_operation _ _ c.in_err-name.ensures.refused)

pub returns-in_err-octets-clause-bad : goal.returns-in_err-octets-clause-bad
returns-in_err-octets-clause-bad c = on_err _ (no_principal _ _ _ _ c.in_ok-name.ensures.ok c.in_err-octets.ensures.refused)
