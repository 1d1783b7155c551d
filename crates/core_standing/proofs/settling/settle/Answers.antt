use Rattle.std.proofs.Common.{◌∙◌, ap, subst}
use Rattle.history_standing.specs.Ends.{without_ended}
use Rattle.history_standing.specs.Standings.{Standing}
use Rattle.history_standing.specs.Trees.{In}
use Rattle.core_standing.specs.Seen.{seen}
use Rattle.core_standing.proofs.Lasting.{lasts_all}
use Rattle.core_standing.proofs.settling.settle.Goals as goal

pub returns : goal.returns
returns c = λ others lasts. (c.drop_gone.ensures ∙ ap (without_ended c.args.config.now) (c.let_out_ended.ensures others))

pub returns-then-lives_on : goal.returns-then-lives_on
returns-then-lives_on c = λ others lasts.
    (let now = c.let_out_ended.ensures others in
    let it = c.lives_on.ensures c.if-lives_on.true in
    now ∙ lasts_all c.args.config.now it.0 (seen c.args.standing.now) (lasts c.if-removes.true it.0 it.1) it.2 it.3
    (subst (λ (s : Standing). In it.2 s.activations) now it.4) it.5 (subst (λ (s : Standing). In it.3 s.activations) now it.6) it.7 it.8)
