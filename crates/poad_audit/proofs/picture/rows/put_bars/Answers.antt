use Rattle.std.proofs.Common.{ap, ◌++◌, ◌∙◌}
use Rattle.poad_audit.specs.PictureLanes.{bar_on}
use Rattle.poad_audit.proofs.Lines.{line_here}
use Rattle.poad_audit.proofs.picture.rows.put_bars.Goals as goal

pub loop-bar-preserved : goal.loop-bar-preserved
loop-bar-preserved c =
    line_here (bar_on c.args.window c.args.lane) c.args.bars.now c.loop-bar.bar-index _ c.loop-bar-test.true _ c.in_ok-text.text _ _
    c.in_ok-text.ensures (c.in_ok-extend_from_slice.ensures.items ∙ ap (λ bs. c.loop-bar.out.items ++ bs) c.as_slice.ensures)
    c.loop-bar.invariant
