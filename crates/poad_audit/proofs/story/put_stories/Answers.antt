use Rattle.std.proofs.Common.{ap, ◌++◌, ◌∙◌}
use Rattle.poad_audit.specs.Story.{story_text}
use Rattle.poad_audit.proofs.Lines.{line_here}
use Rattle.poad_audit.proofs.story.put_stories.Goals as goal

pub loop-trail-preserved : goal.loop-trail-preserved
loop-trail-preserved c =
    line_here (story_text c.args.line) c.args.trails.now c.loop-trail.trail-index c.trail-item.result c.loop-trail-test.true _ c.in_ok-text.text _ _
    (c.in_ok-text.ensures ∙ ap (story_text c.args.line) c.trail-item.is)
    (c.in_ok-extend_from_slice.ensures.items ∙ ap (λ bs. c.loop-trail.out.items ++ bs) c.as_slice.ensures) c.loop-trail.invariant
