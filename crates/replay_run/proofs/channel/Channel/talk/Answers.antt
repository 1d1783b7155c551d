use Rattle.std.proofs.Common.{subst, sym}
use Rattle.replay_run.specs.declared.line.Line.{Line}
use Rattle.replay_run.specs.Talking.{Talks}
use Rattle.replay_run.specs.Keeping.{Tells}
use Rattle.replay_run.proofs.channel.Channel.talk.Goals as goal

pub returns-in_ok-collect-in-Collect : goal.returns-in_ok-collect-in-Collect
returns-in_ok-collect-in-Collect c =
    subst (λ (l : Line). Tells (Talks l c.args.conn) c.args.player.now c.collect.new.player c.args.self.now c.collect.new.self)
    (sym c.in-Collect.is) c.in_ok-collect-in-Collect.ensures
