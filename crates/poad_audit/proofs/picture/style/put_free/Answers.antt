use Rattle.std.proofs.Common.{refl}
use Rattle.poad_audit.specs.PictureStyle.{free_look}
use Rattle.poad_audit.proofs.Lines.{line_here}
use Rattle.poad_audit.proofs.picture.style.put_free.Goals as goal

pub loop-phase-preserved : goal.loop-phase-preserved
loop-phase-preserved c =
    line_here free_look c.args.phases.now c.loop-phase.phase-index _ c.loop-phase-test.true _ _ _ _ refl c.in_ok-put_free_look.ensures
    c.loop-phase.invariant
