use Rattle.std.proofs.Common.{◌≡◌, ◌∙◌, Bool, not, false, sym, ap, subst}
use Rattle.std.specs.BTreeMap.{get}
use Rattle.std.specs.List.{list_any}
use Rattle.std.specs.Ordering.{nat_cmp}
use Rattle.std.proofs.lemmas.Bool.{not-true}
use Rattle.history_standing.specs.declared.activation.Activation.{Activation}
use Rattle.history_standing.specs.Ends.{is_over}
use Rattle.active_map.specs.Asked.{at_one}
use Rattle.active_map.specs.Tables.{Table, is_passing}
use Rattle.active_map.proofs.Asking.{asked_among}
use Rattle.active_map.proofs.NotedKept.{over_passes}
use Rattle.active_map.proofs.activations.Activations.has_none_over.Goals as goal

pub returns-then-self : goal.returns-then-self
returns-then-self c = λ is.
    (let t = c.self.inside in
    let over : Activation → Bool = is_over c.args.config.now in
    let asked = list_any (λ n. at_one over (get nat_cmp t.rows n)) in
    let all = asked_among t.rows.entries over c.self.invariant.table.keyed c.self.invariant.table.ordered is_passing (over_passes c.args.config.now)
    t.passing.numbers.items (c.self.invariant.noted.passed c.if-self.true) in
    subst (λ (u : Table). list_any over u.kept ≡ false) c.self.view_is
    (sym all ∙ ap asked (sym c.as_slice.ensures.value) ∙ sym c.is_any_over.ensures ∙ not-true c.is_any_over.result is))
