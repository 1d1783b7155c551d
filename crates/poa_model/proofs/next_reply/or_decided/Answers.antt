use Rattle.std.proofs.Common.{◌≡◌, ◌+◌, ◌&&◌, not, sym, subst, ◌∙◌, ap, reverse, take}
use Rattle.std.specs.Prelude.{IfOk}
use Rattle.std.specs.Option.{option_or}
use Rattle.history_standing.specs.Arrivals.{arrivals}
use Rattle.history_standing.specs.Searches.{least}
use Rattle.poa_history.specs.Replies as replies
use Rattle.poa_model.proofs.Next.{next_at}
use Rattle.poa_model.proofs.next_reply.or_decided.Goals as goal

pub returns-in-Some : goal.returns-in-Some
returns-in-Some c =
    sym (next_at c.args.run.now.config.now c.args.run.now.number (reverse c.args.history.now) c.args.conn c.args.history.now c.args.place c.requires.place
    ∙ ap (λ f. option_or f
    (least (λ r. replies.is_asked (reverse c.args.history.now) c.args.conn r &&
    (not (replies.is_collected (reverse c.args.history.now) r) &&
    (replies.decided c.args.run.now.config.now c.args.run.now.number (reverse (take (c.args.place + 1) c.args.history.now)) r && not
    (replies.decided c.args.run.now.config.now c.args.run.now.number (reverse (take c.args.place c.args.history.now)) r))))
    (arrivals (reverse (take c.args.place c.args.history.now))))) (sym c.requires.found ∙ c.in-Some.is))

pub returns-in-None : goal.returns-in-None
returns-in-None c =
    subst (λ x. IfOk c.first_decided.result (λ n. n ≡ x))
    (sym (next_at c.args.run.now.config.now c.args.run.now.number (reverse c.args.history.now) c.args.conn c.args.history.now c.args.place c.requires.place
    ∙ ap (λ f. option_or f
    (least (λ r. replies.is_asked (reverse c.args.history.now) c.args.conn r &&
    (not (replies.is_collected (reverse c.args.history.now) r) &&
    (replies.decided c.args.run.now.config.now c.args.run.now.number (reverse (take (c.args.place + 1) c.args.history.now)) r && not
    (replies.decided c.args.run.now.config.now c.args.run.now.number (reverse (take c.args.place c.args.history.now)) r))))
    (arrivals (reverse (take c.args.place c.args.history.now))))) (sym c.requires.found ∙ c.in-None.is)))
    c.first_decided.ensures
