use Rattle.std.proofs.Common.{◌≡◌, ◌∙◌, ◌==◌, ◌∷◌, [], OnOk, map, if◌then◌else◌, true, sym, ap, subst}
use Rattle.std.specs.Map.{values_of}
use Rattle.history_standing.specs.declared.activation.Activation.{Activation}
use Rattle.history_standing.specs.Standings.{is_of}
use Rattle.history_standing.specs.Trees.{In}
use Rattle.history_standing.specs.Changes.{at_number}
use Rattle.active_map.specs.Tables.{Table}
use Rattle.active_map.specs.ById.{numbers_of}
use Rattle.active_map.proofs.OneByOne.{alone_among, ended_id, number_among}
use Rattle.active_map.proofs.RowsKept.{tabled}
use Rattle.active_map.proofs.activations.Activations.end_id.Goals as goal

pub returns-in-Some-clause-ok : goal.returns-in-Some-clause-ok
returns-in-Some-clause-ok c =
    (let t = c.self.inside in
    let k = c.args.adapter in
    let oid = c.args.oid.now in
    let n = c.in-Some.number in
    let f : Activation → Activation = (λ a. if is_of k oid a then record a { ending = true } else a) in
    let whose = sym (c.self.invariant.indexed k oid) in
    let one = subst (λ id. numbers_of t.ids k id ≡ n ∷ []) c.as_slice.ensures.value
    (sym c.numbers_of-numbers.ensures ∙ c.in-Some.ensures) in
    let same = subst (λ (u : Table). map (at_number n f) u.kept ≡ map f u.kept) c.self.view_is
    (ended_id k oid n (values_of t.rows.entries)
    (λ a there taken. alone_among n a.number (subst (In a.number) one
    (number_among (is_of k oid) (values_of t.rows.entries) (numbers_of t.ids k oid) (sym whose) a there taken)))) in
    subst (λ as'. OnOk c.end_one.result (c.end_one.new.self ≡ tabled c.args.self.now.forgotten as')) same c.end_one.ensures.ok)
