use Rattle.std.proofs.Common.{◌≡◌, true, false}
use Rattle.replay_run.specs.Working.{Runs}
use Rattle.replay_run.proofs.PlayedOnward.{works_onward}
use Rattle.replay_run.proofs.Turned.{runs_end, moved_end, made_onward, takes_true, takes_false}
use Rattle.replay_run.proofs.player.Player.run_worker.Goals as goal

pub returns-then-not-branch-clause-works : goal.returns-then-not-branch-clause-works
returns-then-not-branch-clause-works c =
    let none = takes_false c.in_ok-turn.field-0 c.args.worker c.loop.self c.turn.new.self c.if-not-branch.true c.in_ok-turn.ensures in
    runs_end c.args.worker c.args.self.now c.loop.self c.turn.new.self c.loop.invariant.runs none.0 none.1

pub returns-then-not-branch-clause-moved : goal.returns-then-not-branch-clause-moved
returns-then-not-branch-clause-moved c =
    let none = takes_false c.in_ok-turn.field-0 c.args.worker c.loop.self c.turn.new.self c.if-not-branch.true c.in_ok-turn.ensures in
    moved_end c.loop.moved c.args.worker c.args.self.now c.loop.self c.turn.new.self c.loop.invariant.still none.0 none.1

pub loop-preserved : goal.loop-preserved
loop-preserved c = record {
  runs = works_onward (Runs c.args.worker) c.args.self.now c.loop.self c.turn.new.self c.loop.invariant.runs
      (made_onward c.args.worker c.loop.self c.turn.new.self
      (takes_true c.in_ok-turn.field-0 c.args.worker c.loop.self c.turn.new.self c.if-not-branch.false c.in_ok-turn.ensures));
  still = λ e. absurd (let f : true ≡ false = e in cc);
}
