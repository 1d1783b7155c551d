use Rattle.std.proofs.Common.{refl}
use Rattle.replay_run.specs.Working.{Turns}
use Rattle.replay_run.proofs.Turned.{made_turn, by_worker, takes_true, takes_false, idle_told}
use Rattle.replay_run.proofs.player.Player.step.Goals as goal

pub returns-then-branch : goal.returns-then-branch
returns-then-branch c = by_worker Turns c.args.worker c.args.self.now c.turn.new.self c.if-worker-ge-WORKERS.false
    (made_turn c.args.worker c.args.self.now c.turn.new.self
    (takes_true c.in_ok-turn.field-0 c.args.worker c.args.self.now c.turn.new.self c.if-branch.true c.in_ok-turn.ensures))

pub returns : goal.returns
returns c =
    let none = takes_false c.in_ok-turn.field-0 c.args.worker c.args.self.now c.turn.new.self c.if-branch.false c.in_ok-turn.ensures in
    idle_told c.args.worker c.args.self.now c.turn.new.self _ c.if-worker-ge-WORKERS.false none.0 none.1 refl c.in_ok-print_idle.ensures refl refl
