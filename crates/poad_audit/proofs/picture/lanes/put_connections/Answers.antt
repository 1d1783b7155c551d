use Rattle.std.proofs.Common.{refl}
use Rattle.poad_audit.specs.PictureLanes.{connection_lanes}
use Rattle.poad_audit.proofs.PictureFolds.{piece_here}
use Rattle.poad_audit.proofs.picture.lanes.put_connections.Goals as goal

pub loop-conn-preserved : goal.loop-conn-preserved
loop-conn-preserved c =
    piece_here (connection_lanes c.args.names.now) c.args.conns.now c.loop-conn.conn-index _ c.loop-conn-test.true _ _ _ _ refl
    c.in_ok-put_connection.ensures c.loop-conn.invariant
