use Rattle.std.proofs.Common.{◌≡◌, true, false, sym, subst, ◌∙◌}
use Rattle.history_standing.specs.Stages.{is_abandoned, stage}
use Rattle.poa_history.specs.Life.{Life}
use Rattle.core_run.specs.Agrees.{history}
use Rattle.core_run.specs.ToCome.{only_ends}
use Rattle.core_run.proofs.NextTurn.{ends_next, made}
use Rattle.core_run.proofs.Proceeding.{follows_next}
use Rattle.core_run.proofs.stepping.proceed_asked.Goals as goal

pub take-requires-clause-follows : goal.take-requires-clause-follows
take-requires-clause-follows c =
    follows_next c.asked.new.inside c.args.worker c.in-Some.entry c.asked.ensures.kept c.requires.worker
    (subst (λ (l : Life). is_abandoned l.history c.args.worker ≡ false) (sym c.asked.ensures.same) c.requires.going)
    (sym c.in_ok-entry.ensures.next ∙ c.in-Some.is)

pub take-requires-clause-turn : goal.take-requires-clause-turn
take-requires-clause-turn c =
    (let mid = c.asked.new.inside in
    (made mid.config mid.run mid.limit (history mid) c.args.worker c.in-Some.entry (sym c.in_ok-entry.ensures.next ∙ c.in-Some.is)).turn_is)

pub returns-in_err-take-clause-ends : goal.returns-in_err-take-clause-ends
returns-in_err-take-clause-ends c = λ only.
    (let mid = c.asked.new.inside in
    let w = c.args.worker in
    let same = sym c.asked.ensures.same in
    let never : false ≡ true =
    c.in_err-take.ensures.ends
    (ends_next mid.config mid.run mid.limit (history mid) w c.in-Some.entry (sym c.in_ok-entry.ensures.next ∙ c.in-Some.is) c.requires.worker
    (subst (λ (l : Life). is_abandoned l.history w ≡ false) same c.requires.going)
    (subst (λ (l : Life). only_ends (stage l.history w) ≡ true) same only)) in
    absurd (let e : false ≡ true = never in cc))
