use Rattle.replay_run.proofs.Listed.{plays_more, plays_end}
use Rattle.replay_run.proofs.replaying.play_all.Goals as goal

pub loop-step-preserved : goal.loop-step-preserved
loop-step-preserved c = record {
  shows = plays_more c.args.steps.now c.loop-step.step-index c.step-item.result c.loop-step-test.true c.step-item.is _ c.loop-step.player c.play.new.player _
      c.loop-step.channels.items c.play.new.channels.items c.loop-step.invariant.shows c.in_ok-play.ensures.shows;
  keeps = c.in_ok-play.ensures.keeps;
}

pub returns-clause-shows : goal.returns-clause-shows
returns-clause-shows c =
    plays_end c.args.steps.now c.loop-step.step-index c.loop-step-test.false _ c.loop-step.player _ c.loop-step.channels.items c.loop-step.invariant.shows
