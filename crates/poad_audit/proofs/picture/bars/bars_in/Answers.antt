use Rattle.std.proofs.Common.{[], ap}
use Rattle.poad_audit.specs.PictureBars.{bars_of}
use Rattle.poad_audit.proofs.PictureFolds.{piece_here}
use Rattle.poad_audit.proofs.picture.bars.bars_in.Goals as goal

pub loop-trail-preserved : goal.loop-trail-preserved
loop-trail-preserved c =
    piece_here bars_of c.args.trails.now c.loop-trail.trail-index c.trail-item.result c.loop-trail-test.true [] _ _ _ (ap bars_of c.trail-item.is)
    c.in_ok-put_bars.ensures c.loop-trail.invariant
