use Rattle.std.proofs.Common.{◌∙◌, reverse, take, ap, sym}
use Rattle.history_standing.specs.Changes.{standing}
use Rattle.core_standing.proofs.Onward.{reversed_more}
use Rattle.core_standing.proofs.changes.follow.Goals as goal

pub loop-i-preserved : goal.loop-i-preserved
loop-i-preserved c = λ opened.
    c.in_ok-advance.ensures.ok (reverse (take c.loop-i.i c.args.history.now)) (c.loop-i.invariant opened) c.stage_before-stage.ensures c.call_admitted-call.ensures
    ∙ ap (standing c.args.config.now c.args.run)
    (sym (reversed_more c.args.history.now c.loop-i.i c.index-history-i.result c.loop-i-test.true c.index-history-i.is))
