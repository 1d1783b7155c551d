use Rattle.std.proofs.Common.{true, false}
use Rattle.replay_run.specs.Reading.{ReadsOn}
use Rattle.replay_run.proofs.Onward.{tells_end, tells_onward}
use Rattle.replay_run.proofs.Read.{next_so}
use Rattle.replay_run.proofs.channel.Channel.read_on.Goals as goal

pub returns-then-not-branch : goal.returns-then-not-branch
returns-then-not-branch c =
    tells_end (ReadsOn c.args.conn) c.args.player.now c.loop.player c.read_next.new.player c.args.self.now c.loop.self c.read_next.new.self
    c.loop.invariant.reads
    (next_so c.in_ok-read_next.field-0 false c.args.conn c.loop.player c.read_next.new.player c.loop.self c.read_next.new.self c.if-not-branch.true
    c.in_ok-read_next.ensures.tells)

pub loop-preserved : goal.loop-preserved
loop-preserved c = record {
  reads = tells_onward (ReadsOn c.args.conn) c.args.player.now c.loop.player c.read_next.new.player c.args.self.now c.loop.self c.read_next.new.self
      c.loop.invariant.reads
      (next_so c.in_ok-read_next.field-0 true c.args.conn c.loop.player c.read_next.new.player c.loop.self c.read_next.new.self c.if-not-branch.false
      c.in_ok-read_next.ensures.tells);
  open_ = c.read_next.ensures.open_;
}
