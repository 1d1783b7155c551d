use Rattle.std.proofs.Common.{true, false}
use Rattle.replay_run.specs.Lines.{reply_line}
use Rattle.replay_run.specs.Collecting.{CollectsAll}
use Rattle.replay_run.proofs.PlayedOnward.{works_onward}
use Rattle.replay_run.proofs.Collected.{next_is, replies_end, reply_onward}
use Rattle.replay_run.proofs.player.Player.collect_all.Goals as goal

pub returns-then-not-branch : goal.returns-then-not-branch
returns-then-not-branch c = replies_end c.args.name.now c.args.conn c.args.self.now c.loop.self c.collect_next.new.self c.loop.invariant.collects
    (next_is c.in_ok-collect_next.field-0 false c.args.name.now c.args.conn c.loop.self c.collect_next.new.self c.if-not-branch.true
    c.in_ok-collect_next.ensures.next)

pub loop-preserved : goal.loop-preserved
loop-preserved c = record {
  collects = works_onward (CollectsAll (reply_line c.args.name.now) c.args.conn) _ c.loop.self c.collect_next.new.self c.loop.invariant.collects
      (reply_onward c.args.name.now c.args.conn c.loop.self c.collect_next.new.self
      (next_is c.in_ok-collect_next.field-0 true c.args.name.now c.args.conn c.loop.self c.collect_next.new.self c.if-not-branch.false
      c.in_ok-collect_next.ensures.next));
  entered = c.in_ok-collect_next.ensures.entered;
  said = c.in_ok-collect_next.ensures.said;
}
