use Rattle.std.proofs.Common.{◌≡◌, ◌∙◌, ◌||◌, false, ap}
use Rattle.replay_run.proofs.Read.{feeds}
use Rattle.session_laws.proofs.Answers.{on_ok}
use Rattle.replay_run.proofs.channel.Channel.feed.Goals as goal

pub returns : goal.returns
returns c =
    let is : (c.args.self.now.dropped || c.args.self.now.ended) ≡ false = ap (λ d. d || c.args.self.now.ended) c.if-self.false ∙ c.if-self-2.false in
    on_ok c.read_on.result _ _
    (λ p. feeds c.args.bytes.now c.args.conn c.args.player.now c.read_on.new.player c.args.self.now c.read_on.new.self c.take_in.new.input is
    c.in_ok-take_in.ensures p)
    c.read_on.ensures
