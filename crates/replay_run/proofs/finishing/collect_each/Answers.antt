use Rattle.replay_run.proofs.Whole.{still_of}
use Rattle.replay_run.proofs.Listed.{collects_more, collects_end, entered_still}
use Rattle.replay_run.proofs.Seats.{said_still}
use Rattle.replay_run.proofs.finishing.collect_each.Goals as goal

pub loop-channel-preserved : goal.loop-channel-preserved
loop-channel-preserved c = record {
  collects =
      collects_more c.args.channels.now c.loop-channel.channel-index c.channel-item.result c.loop-channel-test.true c.channel-item.is _ c.loop-channel.player
      c.collect_of.new.player c.loop-channel.invariant.collects c.in_ok-collect_of.ensures;
  entered = entered_still c.args.channels.now c.loop-channel.player.core c.collect_of.new.player.core
      (still_of c.channel-item.result.name c.channel-item.result.number c.loop-channel.player.core c.in_ok-collect_of.ensures.text c.collect_of.new.player.core
      c.in_ok-collect_of.ensures.does) c.loop-channel.invariant.entered;
  said = said_still c.loop-channel.player.core c.collect_of.new.player.core
      (still_of c.channel-item.result.name c.channel-item.result.number c.loop-channel.player.core c.in_ok-collect_of.ensures.text c.collect_of.new.player.core
      c.in_ok-collect_of.ensures.does) c.loop-channel.invariant.said;
}

pub returns : goal.returns
returns c = collects_end c.args.channels.now c.loop-channel.channel-index c.loop-channel-test.false _ c.loop-channel.player c.loop-channel.invariant.collects
