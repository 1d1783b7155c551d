use Rattle.std.proofs.Common.{refl}
use Rattle.poad_audit.specs.PictureLanes.{call_lane}
use Rattle.poad_audit.proofs.PictureFolds.{piece_here}
use Rattle.poad_audit.proofs.picture.lanes.put_calls.Goals as goal

pub loop-name-preserved : goal.loop-name-preserved
loop-name-preserved c =
    piece_here (call_lane c.args.conn) c.args.names.now c.loop-name.name-index _ c.loop-name-test.true _ _ _ _ refl c.in_ok-put_call.ensures
    c.loop-name.invariant
