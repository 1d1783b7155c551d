use Rattle.std.proofs.Common.{ap, ◌++◌, ◌∙◌}
use Rattle.poad_audit.specs.Picture.{line_at}
use Rattle.poad_audit.proofs.Lines.{line_here}
use Rattle.poad_audit.proofs.picture.scale.put_lines.Goals as goal

pub loop-number-preserved : goal.loop-number-preserved
loop-number-preserved c =
    line_here (line_at c.args.window c.args.rows) c.args.numbers.now c.loop-number.number-index _ c.loop-number-test.true _ c.in_ok-text.text _ _
    c.in_ok-text.ensures (c.in_ok-extend_from_slice.ensures.items ∙ ap (λ bs. c.loop-number.out.items ++ bs) c.as_slice.ensures)
    c.loop-number.invariant
