use Rattle.std.proofs.Common.{◌≡◌, subst, ap, sym, refl, ◌∙◌}
use Rattle.std.specs.Prelude.{IfOk, option_and_then}
use Rattle.history_standing.specs.Walks.{walk}
use Rattle.history_standing.specs.Keys.{key_of}
use Rattle.history_standing.specs.Situations.{key_or_none, key_fact}
use Rattle.core_standing.specs.Seen.{seen}
use Rattle.core_turns.proofs.FactsAre.{facts_are}
use Rattle.core_turns.proofs.facts.facts_of.Goals as goal

pub returns-in-Some : goal.returns-in-Some
returns-in-Some c = λ past r stands tells crowded arrived.
    let key = c.in-Some.key in
    let spelled = c.as_ref.ensures.value ∙ c.key_in-key.ensures ∙ ap (option_and_then key_of) (sym c.target_of.ensures) in
    let fact = c.key_fact.ensures spelled ∙ ap (key_fact c.args.run) c.target_of.ensures in
    subst (λ f. IfOk c.facts_about.result (λ facts. facts ≡ f))
    (facts_are c.args.config.now c.args.run past r c.args.call.now (seen c.args.standing.now) c.is_locate.result c.args.crowded
    c.key_fact.result key (walk c.args.standing.now.nodes.items key.path) stands arrived c.is_locate.ensures crowded fact
    (ap key_or_none (sym c.in-Some.is ∙ c.key_in-key.ensures)) refl)
    (c.facts_about.ensures past tells)

pub returns-in-None : goal.returns-in-None
returns-in-None c = λ past r stands tells crowded arrived.
    let key = c.empty.result in
    let spelled = c.as_ref.ensures.value ∙ c.key_in-key.ensures ∙ ap (option_and_then key_of) (sym c.target_of.ensures) in
    let fact = c.key_fact.ensures spelled ∙ ap (key_fact c.args.run) c.target_of.ensures in
    subst (λ f. IfOk c.facts_about-in-None.result (λ facts. facts ≡ f))
    (facts_are c.args.config.now c.args.run past r c.args.call.now (seen c.args.standing.now) c.is_locate.result c.args.crowded
    c.key_fact.result key (walk c.args.standing.now.nodes.items key.path) stands arrived c.is_locate.ensures crowded fact
    (c.empty.ensures ∙ ap key_or_none (sym c.in-None.is ∙ c.key_in-key.ensures)) refl)
    (c.facts_about-in-None.ensures past tells)
