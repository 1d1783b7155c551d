use Rattle.std.proofs.Common.{ap, ◌++◌, ◌∙◌}
use Rattle.poad_audit.specs.Objects.{change_text}
use Rattle.poad_audit.proofs.Lines.{line_here}
use Rattle.poad_audit.proofs.object_text.put_changes.Goals as goal

pub loop-change-preserved : goal.loop-change-preserved
loop-change-preserved c =
    line_here (change_text c.args.path.now c.args.oid.now) c.args.changes.now c.loop-change.change-index c.change-item.result c.loop-change-test.true _ c.in_ok-text.text _ _
    (c.in_ok-text.ensures ∙ ap (change_text c.args.path.now c.args.oid.now) c.change-item.is)
    (c.in_ok-extend_from_slice.ensures.items ∙ ap (λ bs. c.loop-change.out.items ++ bs) c.as_slice.ensures) c.loop-change.invariant
