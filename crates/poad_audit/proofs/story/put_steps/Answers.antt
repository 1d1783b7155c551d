use Rattle.std.proofs.Common.{ap, ◌++◌, ◌∙◌}
use Rattle.poad_audit.specs.Story.{step_line}
use Rattle.poad_audit.proofs.Lines.{line_here}
use Rattle.poad_audit.proofs.story.put_steps.Goals as goal

pub loop-step-preserved : goal.loop-step-preserved
loop-step-preserved c =
    line_here step_line c.args.steps.now c.loop-step.step-index c.step-item.result c.loop-step-test.true _ c.in_ok-line.line _ _
    (c.in_ok-line.ensures ∙ ap step_line c.step-item.is)
    (c.in_ok-extend_from_slice.ensures.items ∙ ap (λ bs. c.loop-step.out.items ++ bs) c.as_slice.ensures) c.loop-step.invariant
