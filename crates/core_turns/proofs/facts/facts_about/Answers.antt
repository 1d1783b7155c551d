use Rattle.std.proofs.Common.{◌≡◌, ◌∙◌, ap₂, subst}
use Rattle.std.specs.Prelude.{IfOk}
use Rattle.history_standing.specs.Situations.{facts_met}
use Rattle.history_standing.specs.Walks.{walk}
use Rattle.core_standing.specs.Seen.{seen}
use Rattle.core_turns.proofs.facts.facts_about.Goals as goal

pub returns-in-Some : goal.returns-in-Some
returns-in-Some c = λ past tells.
    subst (λ found. IfOk c.facts_at.result (λ facts. facts ≡ facts_met c.args.config.now c.args.run past (seen c.args.standing.now)
    c.args.asked.locate c.args.asked.crowded c.args.asked.key c.args.key.now found))
    (c.walk-found.ensures ∙ ap₂ walk c.deref.ensures.value c.path.ensures)
    (c.facts_at.ensures past (c.in-Some.ensures ∙ c.path-2.ensures) tells)

pub returns-in_ok-path-in-None : goal.returns-in_ok-path-in-None
returns-in_ok-path-in-None c = λ past tells.
    subst (λ found. IfOk c.facts_at-in-None.result (λ facts. facts ≡ facts_met c.args.config.now c.args.run past (seen c.args.standing.now)
    c.args.asked.locate c.args.asked.crowded c.args.asked.key c.args.key.now found))
    (c.walk-found.ensures ∙ ap₂ walk c.deref.ensures.value c.path.ensures)
    (c.facts_at-in-None.ensures past (c.as_slice.ensures.value ∙ c.in_ok-path-in-None.ensures ∙ c.path-in-None.ensures) tells)
