use Rattle.replay_run.proofs.Turned.{settles_more, settles_end}
use Rattle.replay_run.proofs.player.Player.settle.Goals as goal

pub returns-then-not-branch : goal.returns-then-not-branch
returns-then-not-branch c =
    settles_end c.args.self.now c.loop.self c.run_all.new.self c.in_ok-run_all.field-0 c.loop.invariant c.if-not-branch.true c.in_ok-run_all.ensures.moved

pub loop-preserved : goal.loop-preserved
loop-preserved c = settles_more _ c.loop.self c.run_all.new.self c.loop.invariant c.in_ok-run_all.ensures.works
