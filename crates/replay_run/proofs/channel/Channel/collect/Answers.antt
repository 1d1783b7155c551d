use Rattle.std.proofs.Common.{List, ℕ, subst}
use Rattle.replay_run.specs.Lines.{reply_line}
use Rattle.replay_run.specs.Collecting.{CollectsAll}
use Rattle.replay_run.specs.Effects.{Works}
use Rattle.replay_run.proofs.Told.{collects_told}
use Rattle.replay_run.proofs.channel.Channel.collect.Goals as goal

pub returns : goal.returns
returns c = collects_told c.args.conn c.args.player.now c.collect_all.new.self c.args.self.now
    (subst (λ (name : List ℕ). Works (CollectsAll (reply_line name) c.args.conn) c.args.player.now c.collect_all.new.self) c.as_slice.ensures.value
    c.in_ok-collect_all.ensures)
