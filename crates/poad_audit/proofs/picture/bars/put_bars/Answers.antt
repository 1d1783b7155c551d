use Rattle.std.proofs.Common.{◌≡◌, ◌<◌, List, ◌++◌, length, get_or, ap, subst, ◌∙◌}
use Rattle.journal_explain.specs.declared.Step.{Step}
use Rattle.poad_audit.specs.PictureBars.{bar_after, bars_ended}
use Rattle.poad_audit.proofs.PictureFolds.{bar_here}
use Rattle.poad_audit.proofs.picture.bars.put_bars.Goals as goal

pub loop-step-preserved : goal.loop-step-preserved
loop-step-preserved c =
    let all = c.args.trail.now.steps.items in
    let i = c.loop-step.step-index in
    let step = c.step-item.result in
    let is : step ≡ get_or all i step = c.step-item.is ∙ ap (λ (xs : List Step). get_or xs i step) c.as_slice-step-items.ensures.value in
    bar_here c.is_asking-asked.result all i step
    (subst (λ (xs : List Step). i < length xs) c.as_slice-step-items.ensures.value c.loop-step-test.true)
    c.loop-step.bar c.in_ok-after.after c.loop-step.bars.items _ _
    (c.in_ok-after.ensures.bars ∙ ap (λ (s : Step). c.loop-step.bars.items ++ bars_ended s c.loop-step.bar) is)
    (c.in_ok-after.ensures.bar ∙ ap (λ (s : Step). bar_after c.is_asking-asked.result s c.loop-step.bar) is)
    c.loop-step.invariant
