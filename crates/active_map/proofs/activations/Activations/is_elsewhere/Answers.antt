use Rattle.std.proofs.Common.{◌==◌, ◌∙◌, Bool, not, ap, sym}
use Rattle.std.specs.List.{list_any}
use Rattle.std.specs.Option.{option_copied}
use Rattle.std.proofs.lemmas.Bool.{and_parts, eqb-true}
use Rattle.history_standing.specs.declared.activation.Activation.{Activation}
use Rattle.active_map.specs.Asked.{is_other}
use Rattle.active_map.specs.Tables.{Table}
use Rattle.active_map.proofs.Asking.{asked_by_ids, asked_of_none}
use Rattle.active_map.proofs.activations.Activations.is_elsewhere.Goals as goal

pub returns-in-Some : goal.returns-in-Some
returns-in-Some c =
    (let t = c.self.inside in
    let test : Activation → Bool = is_other c.args.activation.now in
    c.has_other.ensures
    ∙ asked_by_ids t.rows.entries test t.ids c.self.invariant.table.keyed c.self.invariant.table.ordered c.self.invariant.indexed c.args.activation.now.adapter
    (λ b is. eqb-true b.adapter c.args.activation.now.adapter
    (and_parts (b.adapter == c.args.activation.now.adapter) _ (and_parts (not (b.number == c.args.activation.now.number)) _ is).1).0) c.in-Some.ids.now
    (sym c.get.ensures.value ∙ ap option_copied c.in-Some.is)
    ∙ ap (λ (u : Table). list_any test u.kept) c.self.view_is)

pub returns-in-None : goal.returns-in-None
returns-in-None c =
    (let t = c.self.inside in
    let test : Activation → Bool = is_other c.args.activation.now in
    asked_of_none t.rows.entries test t.ids c.self.invariant.table.keyed c.self.invariant.table.ordered c.self.invariant.indexed c.args.activation.now.adapter
    (λ b is. eqb-true b.adapter c.args.activation.now.adapter
    (and_parts (b.adapter == c.args.activation.now.adapter) _ (and_parts (not (b.number == c.args.activation.now.number)) _ is).1).0)
    (sym c.get.ensures.value ∙ ap option_copied c.in-None.is)
    ∙ ap (λ (u : Table). list_any test u.kept) c.self.view_is)
