use Rattle.std.proofs.Common.{◌≡◌, Some, length, slice_get, refl}
use Rattle.std.proofs.lemmas.Option.{slice_get_read}
use Rattle.replay_run.proofs.Same.{Still}
use Rattle.replay_run.proofs.Gathered.{each_end, each_more, still_of}
use Rattle.replay_run.proofs.Listed.{entered_still}
use Rattle.replay_run.proofs.Seats.{said_still}
use Rattle.replay_run.proofs.quiet.gather_each.Goals as goal

pub gather-requires-clause-entered : goal.gather-requires-clause-entered
gather-requires-clause-entered c =
    let items = c.args.channels.now in
    let at : slice_get items c.loop-channel.channel-index ≡ Some c.channel-item.result =
    slice_get_read items (length items) c.loop-channel.channel-index c.channel-item.result refl c.loop-channel-test.true c.channel-item.is in
    λ n is. c.loop-channel.invariant.entered c.loop-channel.channel-index n c.channel-item.result at is

pub loop-channel-preserved : goal.loop-channel-preserved
loop-channel-preserved c =
    let still : Still c.loop-channel.core c.gather.new.core =
    still_of c.channel-item.result.number c.loop-channel.core c.in_ok-gather.ensures.bytes c.gather.new.core c.in_ok-gather.ensures.does in
    record {
      gathers =
          each_more c.args.channels.now c.loop-channel.channel-index c.channel-item.result c.loop-channel-test.true c.channel-item.is c.args.core.now
          c.loop-channel.core c.gather.new.core
          c.args.out.now.items c.loop-channel.out.items c.gather.new.out.items c.loop-channel.invariant.gathers c.in_ok-gather.ensures;
      entered = entered_still c.args.channels.now c.loop-channel.core c.gather.new.core still c.loop-channel.invariant.entered;
      said = said_still c.loop-channel.core c.gather.new.core still c.loop-channel.invariant.said;
    }

pub returns : goal.returns
returns c =
    each_end c.args.channels.now c.loop-channel.channel-index c.loop-channel-test.false c.args.core.now c.loop-channel.core c.args.out.now.items
    c.loop-channel.out.items c.loop-channel.invariant.gathers
