use Rattle.std.proofs.Common.{◌≡◌, ◌∙◌, Bool, not, map, false, sym, ap, subst}
use Rattle.std.specs.List.{list_any}
use Rattle.std.specs.Map.{values_of}
use Rattle.std.proofs.lemmas.Bool.{not-true}
use Rattle.history_standing.specs.declared.activation.Activation.{Activation}
use Rattle.history_standing.specs.Ends.{let_out}
use Rattle.active_map.specs.Asked.{is_to_go}
use Rattle.active_map.specs.Tables.{Table, is_leaving}
use Rattle.active_map.proofs.Asking.{asked_among}
use Rattle.active_map.proofs.OneByOne.{go_leaving, none_goes}
use Rattle.active_map.proofs.activations.Activations.has_none_to_go.Goals as goal

pub returns : goal.returns
returns c = λ is s flown.
    (let t = c.self.inside in
    let cfg = c.args.config.now in
    let all = asked_among t.rows.entries (is_to_go cfg c.args.flights.now) c.self.invariant.table.keyed c.self.invariant.table.ordered is_leaving
    (go_leaving cfg c.args.flights.now) t.leaving.keys c.self.invariant.covered in
    let none : list_any (is_to_go cfg c.args.flights.now) (values_of t.rows.entries) ≡ false =
    sym all ∙ sym c.is_any_to_go.ensures ∙ not-true c.is_any_to_go.result is in
    subst (λ (u : Table). map (let_out cfg s) u.kept ≡ u.kept) c.self.view_is
    (none_goes cfg s (values_of t.rows.entries) (ap (λ fs. list_any (is_to_go cfg fs) (values_of t.rows.entries)) flown ∙ none)))
