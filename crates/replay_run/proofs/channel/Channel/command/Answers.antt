use Rattle.std.proofs.Common.{rules, ◌∙◌, sym}
use Rattle.replay_run.proofs.Read.{commands_told}
use Rattle.replay_run.proofs.channel.Channel.command.Goals as goal

pub returns : goal.returns
returns c =
    commands_told c.args.words.now c.args.conn c.in_ok-number.number c.in_ok-command.command c.args.player.now c.call.new.self c.args.self.now
    c.if-self.false (sym c.is_sized.ensures ∙ c.if-not-is_sized.false) c.in_ok-number.ensures c.in_ok-command.ensures c.in_ok-call.ensures.life (search rules)
    c.in_ok-call.ensures.filled c.call.ensures.turned_away
