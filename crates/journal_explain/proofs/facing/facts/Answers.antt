use Rattle.std.proofs.Common.{sym, ap, ◌∙◌, arith}
use Rattle.std.proofs.lemmas.Grind.{common_steps}
use Rattle.std.specs.Prelude.{option_copied}
use Rattle.journal_explain.proofs.Standing.{call_is, called, facts_given, set_as, stands_as}
use Rattle.journal_explain.proofs.facing.facts.Goals as goal

pub returns : goal.returns
returns c =
    let life = c.args.run.now in
    let s = c.state-state.result.now in
    let config = c.config.result.now in
    let run = c.run.result in
    let config_is = c.config.ensures in
    let run_is = c.run.ensures in
    let is = c.state-state.ensures.state in
    let entries = c.entries.result.now.items in
    let stands = stands_as life s config run config_is run_is is c.keeps_laws.ensures.runs in
    let set = set_as life s config run config_is run_is is in
    let crowded = c.is_crowded-crowded.ensures life.history c.tables-tables.ensures.tables.queue in
    let there = sym (call_is life entries c.args.arrival _ c.entries.ensures
    (c.call-call.ensures (called life entries c.tables-tables.result.now c.entries.ensures c.tables-tables.ensures.tables))) ∙ ap option_copied c.in-Some.is in
    facts_given life c.args.arrival config run config_is run_is c.in-Some.call.now c.in_ok-facts.facts there
    (grind (arith, common_steps, c.if-not-is_message.false, c.is_message.ensures, c.in-Some.is))
    (c.in_ok-facts.ensures life.history c.args.arrival stands set crowded there)
