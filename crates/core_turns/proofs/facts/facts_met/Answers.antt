use Rattle.std.proofs.Common.{rules, ◌≡◌, ◌∙◌, ap, ap₂, length, List, [], ◌∷◌, true, false}
use Rattle.std.specs.Prelude.{is_some}
use Rattle.poa_base.specs.declared.RuleConf.{RuleConf}
use Rattle.history_standing.specs.Commands as commands
use Rattle.history_standing.specs.Rules as matching
use Rattle.history_standing.specs.Standings as standings
use Rattle.history_standing.specs.Templates as templates
use Rattle.history_standing.specs.Walks as walks
use Rattle.history_standing.specs.Situations as situations
use Rattle.core_standing.specs.Seen.{seen}
use Rattle.core_turns.proofs.FactsMet.{facts_same}
use Rattle.core_turns.proofs.facts.facts_met.Goals as goal

pub returns : goal.returns
returns c = λ past found way set.
    let config = c.args.config.now in
    let s = seen c.args.standing.now in
    let path = c.args.key.now.path in
    let at = walks.adapter_met found in
    let walk : c.walk_fact.result ≡ situations.walk_fact found = c.walk_fact.ensures ∙ ap situations.walk_fact way.found in
    let adapter : c.adapter_met-adapter.result ≡ at = c.adapter_met-adapter.ensures ∙ ap walks.adapter_met way.found in
    let manager : c.args.way.met.manager ≡ templates.manager_at config (walks.place_met found path) = way.met.manager in
    let child = c.child_met.ensures ∙ ap₂ walks.child_met way.found way.path in
    let trial : c.is_tried.result ≡ standings.is_tried s.flights (walks.child_met found path) = search rules in
    let tries : c.tries.result ≡ is_some (templates.template_or_root config (walks.place_met found path)).children =
    c.tries.ensures ∙ ap is_some way.met.children in
    let differs : c.differs.result ≡ situations.differs config c.args.key.now at =
    c.differs.ensures config way.own ∙ ap (situations.differs config c.args.key.now) adapter in
    let other_tag : c.other_tag.result ≡ situations.other_tag config c.args.key.now = c.other_tag.ensures config way.own in
    let policies : c.args.way.own.policies ≡ templates.policies_at config path = way.own.policies in
    let running : c.is_running.result ≡ standings.is_running s.flights at = search rules in
    let slot : c.slot_of.result ≡ situations.slot_of config s.activations at c.args.key.now.oid = search rules in
    let bad : c.is_bad_for.result ≡ commands.is_bad_id config c.args.run s.made path c.oid-oid.result.now = c.is_bad_for.ensures config path policies in
    let bad_id : c.is_bad_for.result ≡ commands.is_bad_id config c.args.run s.made path c.args.key.now.oid =
    bad ∙ ap (commands.is_bad_id config c.args.run s.made path) c.oid-oid.ensures.value in
    let ruled : c.has_rules.result ≡ elim (templates.rules_at config path) [ [] ↦ false | _ ∷ _ ↦ true ] =
    c.has_rules.ensures ∙ ap (λ (rs : List RuleConf). elim rs [ [] ↦ false | _ ∷ _ ↦ true ]) way.own.rules in
    let busy : c.is_changing.result ≡ situations.is_changing config s.activations at = search rules in
    let next : c.in_ok-begun.field-0 ≡ length s.activations = c.in_ok-begun.ensures.begun in
    let located : c.in_ok-located_among.field-0 ≡ matching.located config path c.args.key.now.oid =
    c.in_ok-located_among.ensures
    ∙ ap₂ (λ rs oid. matching.located_by config (matching.rule_for rs oid)) way.own.rules c.oid-oid.ensures.value in
    facts_same c.args.asked.locate c.args.asked.crowded c.args.asked.key walk adapter manager set.state trial tries set.entry differs other_tag policies
    running slot bad_id set.preset ruled busy next located
