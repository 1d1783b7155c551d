use Rattle.std.proofs.Common.{Some}
use Rattle.poad_audit.proofs.PictureFolds.{number_here}
use Rattle.poad_audit.proofs.picture.numbers.connections_in.Goals as goal

pub loop-name-preserved : goal.loop-name-preserved
loop-name-preserved c =
    number_here (λ name. Some name.conn) c.args.names.now c.loop-name.name-index _ c.loop-name-test.true _ _ _ c.in_ok-enter.ensures
    c.loop-name.invariant
