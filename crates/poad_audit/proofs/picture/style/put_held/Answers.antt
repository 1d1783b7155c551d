use Rattle.std.proofs.Common.{refl}
use Rattle.poad_audit.specs.PictureStyle.{held_look}
use Rattle.poad_audit.proofs.Lines.{line_here}
use Rattle.poad_audit.proofs.picture.style.put_held.Goals as goal

pub loop-cause-preserved : goal.loop-cause-preserved
loop-cause-preserved c =
    line_here held_look c.args.causes.now c.loop-cause.cause-index _ c.loop-cause-test.true _ _ _ _ refl c.in_ok-put_held_look.ensures
    c.loop-cause.invariant
