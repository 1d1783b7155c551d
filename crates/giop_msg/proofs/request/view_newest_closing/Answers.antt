-- The operation, the count of the contexts and the contexts were read.
use Rattle.ior_text.proofs.Refused.{on_err}
use Rattle.giop_msg.proofs.ContextFields.{no_operation, no_count, no_contexts_behind, closing_read}
use Rattle.giop_msg.proofs.request.view_newest_closing.Goals as goal

pub returns-in_err-operation-clause-bad : goal.returns-in_err-operation-clause-bad
returns-in_err-operation-clause-bad c = on_err _ (no_operation _ _ c.in_err-operation.ensures.refused)

pub returns-in_err-count-clause-bad : goal.returns-in_err-count-clause-bad
returns-in_err-count-clause-bad c = on_err _ (no_count _ _ _ _ c.in_ok-operation.ensures.ok c.in_err-count.ensures.refused)

pub returns-in_err-pass_contexts-clause-bad : goal.returns-in_err-pass_contexts-clause-bad
returns-in_err-pass_contexts-clause-bad c =
    on_err _ (no_contexts_behind _ _ _ _ _ c.in_ok-operation.ensures.ok c.in_ok-count.ensures.ok c.in_err-pass_contexts.ensures.bad)

pub returns-clause-ok : goal.returns-clause-ok
returns-clause-ok c =
    closing_read _ _ _ _ _ _ c.in_ok-operation.ensures.ok c.in_ok-count.ensures.ok c.in_ok-pass_contexts.ensures.ok
