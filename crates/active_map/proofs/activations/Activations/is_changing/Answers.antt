use Rattle.std.proofs.Common.{◌==◌, ◌&&◌, ◌∙◌, Bool, ap, sym}
use Rattle.std.specs.List.{list_any}
use Rattle.std.specs.Option.{option_copied}
use Rattle.std.proofs.lemmas.Bool.{and_parts, eqb-true}
use Rattle.history_standing.specs.declared.activation.Activation.{Activation}
use Rattle.history_standing.specs.Situations.{is_unfinished}
use Rattle.active_map.specs.Tables.{Table}
use Rattle.active_map.specs.Asked.{at_one}
use Rattle.active_map.specs.Tables.{is_passing}
use Rattle.active_map.proofs.Asking.{asked_among, asked_by_ids, asked_of_none}
use Rattle.active_map.proofs.NotedKept.{unfinished_passes}
use Rattle.std.specs.BTreeMap.{get}
use Rattle.std.specs.Ordering.{nat_cmp}
use Rattle.active_map.proofs.activations.Activations.is_changing.Goals as goal

pub returns-in-Some : goal.returns-in-Some
returns-in-Some c =
    (let t = c.self.inside in
    let test : Activation → Bool = (λ a. (a.adapter == c.args.adapter) && is_unfinished c.args.config.now a) in
    c.has_changing.ensures
    ∙ asked_by_ids t.rows.entries test t.ids c.self.invariant.table.keyed c.self.invariant.table.ordered c.self.invariant.indexed c.args.adapter
    (λ a is. eqb-true a.adapter c.args.adapter (and_parts (a.adapter == c.args.adapter) (is_unfinished c.args.config.now a) is).0) c.in-Some.ids.now
    (sym c.get.ensures.value ∙ ap option_copied c.in-Some.is)
    ∙ ap (λ (u : Table). list_any test u.kept) c.self.view_is)

pub returns-in-None : goal.returns-in-None
returns-in-None c =
    (let t = c.self.inside in
    let test : Activation → Bool = (λ a. (a.adapter == c.args.adapter) && is_unfinished c.args.config.now a) in
    asked_of_none t.rows.entries test t.ids c.self.invariant.table.keyed c.self.invariant.table.ordered c.self.invariant.indexed c.args.adapter
    (λ a is. eqb-true a.adapter c.args.adapter (and_parts (a.adapter == c.args.adapter) (is_unfinished c.args.config.now a) is).0)
    (sym c.get.ensures.value ∙ ap option_copied c.in-None.is)
    ∙ ap (λ (u : Table). list_any test u.kept) c.self.view_is)

pub returns-then-self : goal.returns-then-self
returns-then-self c =
    (let t = c.self.inside in
    let test : Activation → Bool = (λ a. (a.adapter == c.args.adapter) && is_unfinished c.args.config.now a) in
    c.is_any_changing.ensures
    ∙ ap (list_any (λ n. at_one test (get nat_cmp t.rows n))) c.as_slice-numbers.ensures.value
    ∙ asked_among t.rows.entries test c.self.invariant.table.keyed c.self.invariant.table.ordered is_passing
    (λ a is. unfinished_passes c.args.config.now a (and_parts (a.adapter == c.args.adapter) (is_unfinished c.args.config.now a) is).1)
    t.passing.numbers.items (c.self.invariant.noted.passed c.if-self.true)
    ∙ ap (λ (u : Table). list_any test u.kept) c.self.view_is)
