use Rattle.std.proofs.Common.{ap, ◌∙◌}
use Rattle.poad_audit.specs.PictureLanes.{entered_if, number_on}
use Rattle.poad_audit.proofs.PictureFolds.{number_here}
use Rattle.poad_audit.proofs.picture.numbers.numbers_in.Goals as goal

pub loop-bar-preserved : goal.loop-bar-preserved
loop-bar-preserved c =
    number_here (number_on c.args.band) c.args.bars.now c.loop-bar.bar-index _ c.loop-bar-test.true _ _ _
    (c.in_ok-enter_if.ensures ∙ ap (λ n. entered_if n c.loop-bar.known.items) c.number_on.ensures) c.loop-bar.invariant
