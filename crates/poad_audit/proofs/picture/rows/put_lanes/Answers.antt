use Rattle.std.proofs.Common.{ap, ◌++◌, ◌∙◌}
use Rattle.poad_audit.proofs.PictureFolds.{lane_here}
use Rattle.poad_audit.proofs.picture.rows.put_lanes.Goals as goal

pub loop-row-preserved : goal.loop-row-preserved
loop-row-preserved c =
    lane_here c.args.window c.args.bars.now c.args.lanes.now c.loop-row.row _ c.loop-row-test.true _ c.in_ok-text.text _ _ c.in_ok-text.ensures
    (c.in_ok-extend_from_slice.ensures.items ∙ ap (λ bs. c.loop-row.out.items ++ bs) c.as_slice.ensures) c.loop-row.invariant
