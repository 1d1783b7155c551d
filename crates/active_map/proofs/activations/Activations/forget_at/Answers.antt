use Rattle.std.proofs.Common.{◌≡◌, ◌+◌, ◌-◌, ◌≤◌, ◌==◌, ◌++◌, ◌∷◌, List, filter, length, not, refl, sym, ap, subst, ◌∙◌, arith, option_copied}
use Rattle.std.specs.Map.{values_of}
use Rattle.std.proofs.lemmas.List.{length-append}
use Rattle.std.proofs.lemmas.List.Filters.{length-filter_both}
use Rattle.std.proofs.lemmas.Map.Entries.{length-values_of}
use Rattle.history_standing.specs.declared.activation.Activation.{Activation}
use Rattle.history_standing.specs.Ends.{is_over}
use Rattle.active_map.specs.ById.{IsAt, numbers_of}
use Rattle.active_map.specs.Tables.{Table, IsIndexed, is_leaving, is_moving, weight}
use Rattle.active_map.proofs.NotedKept.{noted_struck}
use Rattle.active_map.proofs.IdsKept.{indexed_less, values_apart}
use Rattle.active_map.proofs.Covering.{covers_rest, struck_stays}
use Rattle.active_map.proofs.Removal.{absent_is, counted_without, is_spent, living_is, none_left, removed_is, split_at}
use Rattle.active_map.proofs.RowsKept.{number_found, table_kept, values_kept, weight_within}
use Rattle.active_map.proofs.activations.Activations.forget_at.Goals as goal

pub overflow_sub-self : goal.overflow_sub-self
overflow_sub-self c =
    (let t = c.self.inside in
    let had = sym c.get.ensures.value ∙ ap option_copied c.in-Some.is in
    subst (λ m. m ≤ t.moving) (sym c.moves.ensures)
    (weight_within t.forgotten t.moving c.args.number t.rows.entries c.self.invariant.table c.in-Some.activation.now had))

pub returns-in_default-clause-forgotten : goal.returns-in_default-clause-forgotten
returns-in_default-clause-forgotten c =
    (let t = c.self.inside in
    let p = is_spent c.args.number (is_over c.args.config.now) in
    let none = absent_is c.args.number (is_over c.args.config.now) t.rows.entries c.self.invariant.table.keyed
    (sym c.get.ensures.value ∙ ap option_copied c.in_default.is) in
    subst (λ (u : Table). u.forgotten ≡ u.forgotten + length (filter p u.kept)) c.self.view_is
    (subst (λ (xs : List Activation). t.forgotten ≡ t.forgotten + length xs) (sym none) (omega arith)))

pub returns-in_default-clause-kept : goal.returns-in_default-clause-kept
returns-in_default-clause-kept c =
    (let t = c.self.inside in
    let p = is_spent c.args.number (is_over c.args.config.now) in
    let none = absent_is c.args.number (is_over c.args.config.now) t.rows.entries c.self.invariant.table.keyed
    (sym c.get.ensures.value ∙ ap option_copied c.in_default.is) in
    subst (λ (u : Table). u.kept ≡ filter (λ a. not (p a)) u.kept) c.self.view_is (none_left p (values_of t.rows.entries) none))

pub returns-then-not-is_over-clause-forgotten : goal.returns-then-not-is_over-clause-forgotten
returns-then-not-is_over-clause-forgotten c =
    (let t = c.self.inside in
    let p = is_spent c.args.number (is_over c.args.config.now) in
    let none = living_is c.args.number (is_over c.args.config.now) t.rows.entries c.self.invariant.table.keyed c.self.invariant.table.ordered
    c.in-Some.activation.now (sym c.get.ensures.value ∙ ap option_copied c.in-Some.is) (sym c.is_over.ensures ∙ c.if-not-is_over.true) in
    subst (λ (u : Table). u.forgotten ≡ u.forgotten + length (filter p u.kept)) c.self.view_is
    (subst (λ (xs : List Activation). t.forgotten ≡ t.forgotten + length xs) (sym none) (omega arith)))

pub returns-then-not-is_over-clause-kept : goal.returns-then-not-is_over-clause-kept
returns-then-not-is_over-clause-kept c =
    (let t = c.self.inside in
    let p = is_spent c.args.number (is_over c.args.config.now) in
    let none = living_is c.args.number (is_over c.args.config.now) t.rows.entries c.self.invariant.table.keyed c.self.invariant.table.ordered
    c.in-Some.activation.now (sym c.get.ensures.value ∙ ap option_copied c.in-Some.is) (sym c.is_over.ensures ∙ c.if-not-is_over.true) in
    subst (λ (u : Table). u.kept ≡ filter (λ a. not (p a)) u.kept) c.self.view_is (none_left p (values_of t.rows.entries) none))

pub returns-clause-kept : goal.returns-clause-kept
returns-clause-kept c =
    (let t = c.self.inside in
    let p = is_spent c.args.number (is_over c.args.config.now) in
    ap values_of (c.remove-gone.ensures.entries
    ∙ removed_is c.args.number (is_over c.args.config.now) t.rows.entries c.self.invariant.table.keyed c.self.invariant.table.ordered
    c.in-Some.activation.now (sym c.get.ensures.value ∙ ap option_copied c.in-Some.is) (sym c.is_over.ensures ∙ c.if-not-is_over.false))
    ∙ values_kept (λ a. not (p a)) t.rows.entries
    ∙ ap (λ (u : Table). filter (λ a. not (p a)) u.kept) c.self.view_is)

pub returns-clause-forgotten : goal.returns-clause-forgotten
returns-clause-forgotten c =
    (let t = c.self.inside in
    let a = c.in-Some.activation.now in
    let p = is_spent c.args.number (is_over c.args.config.now) in
    let all = values_of t.rows.entries in
    let had = sym c.get.ensures.value ∙ ap option_copied c.in-Some.is in
    let parts = split_at c.args.number t.rows.entries a had in
    let rest : values_of c.remove-gone.new.self.entries ≡ filter (λ x. not (p x)) all =
    ap values_of (c.remove-gone.ensures.entries
    ∙ removed_is c.args.number (is_over c.args.config.now) t.rows.entries c.self.invariant.table.keyed c.self.invariant.table.ordered
    a had (sym c.is_over.ensures ∙ c.if-not-is_over.false))
    ∙ values_kept (λ x. not (p x)) t.rows.entries in
    let left : length (filter (λ x. not (p x)) all) ≡ length (parts.before ++ parts.after) =
    ap length (sym rest ∙ ap values_of c.remove-gone.ensures.entries ∙ parts.left) in
    let whole : length all ≡ length (parts.before ++ a ∷ parts.after) = ap length parts.whole in
    let one = length-append parts.before (a ∷ parts.after) in
    let two = length-append parts.before parts.after in
    let both = length-filter_both p (λ x. not (p x)) (λ _. refl) all in
    let gone : length (filter p all) ≡ 1 = omega (arith, left, whole, one, two, both) in
    ap (λ n. t.forgotten + n) (sym gone) ∙ ap (λ (u : Table). u.forgotten + length (filter p u.kept)) c.self.view_is)

pub invariant_of-self : goal.invariant_of-self
invariant_of-self c =
    (let t = c.self.inside in
    let a = c.in-Some.activation.now in
    let p = is_spent c.args.number (is_over c.args.config.now) in
    let had = sym c.get.ensures.value ∙ ap option_copied c.in-Some.is in
    let parts = split_at c.args.number t.rows.entries a had in
    let kept = c.remove-gone.ensures.entries
    ∙ removed_is c.args.number (is_over c.args.config.now) t.rows.entries c.self.invariant.table.keyed c.self.invariant.table.ordered
    a had (sym c.is_over.ensures ∙ c.if-not-is_over.false) in
    let left : values_of c.remove-gone.new.self.entries ≡ parts.before ++ parts.after = ap values_of c.remove-gone.ensures.entries ∙ parts.left in
    let whole : length (values_of t.rows.entries) ≡ length (parts.before ++ a ∷ parts.after) = ap length parts.whole in
    let less : length (values_of c.remove-gone.new.self.entries) ≡ length (parts.before ++ parts.after) = ap length left in
    let one = length-append parts.before (a ∷ parts.after) in
    let two = length-append parts.before parts.after in
    let long = length-values_of t.rows.entries in
    let short = length-values_of c.remove-gone.new.self.entries in
    let moved : t.moving ≡ weight a + length (filter is_moving (parts.before ++ parts.after)) =
    c.self.invariant.table.counted ∙ ap (λ xs. length (filter is_moving xs)) parts.whole ∙ counted_without is_moving parts.before parts.after a in
    let still : length (filter is_moving (values_of c.remove-gone.new.self.entries)) ≡ length (filter is_moving (parts.before ++ parts.after)) =
    ap (λ xs. length (filter is_moving xs)) left in
    let weighs = c.moves.ensures in
    let its = number_found c.args.number t.rows.entries c.self.invariant.table.keyed a had in
    let apart = values_apart t.rows.entries c.self.invariant.table.keyed c.self.invariant.table.ordered parts.before parts.after a parts.whole in
    let table = table_kept t.forgotten t.moving (t.forgotten + 1) (t.moving - c.moves.result) t.rows.entries c.remove-gone.new.self.entries
    (λ row. not (p row.1)) c.self.invariant.table kept c.remove-gone.ensures.ordered (omega (arith, whole, less, one, two, long, short))
    (omega (arith, moved, still, weighs)) in
    record {
      table = table;
      indexed =
          subst (IsIndexed c.remove.new.index) (sym left)
          (indexed_less t.ids c.remove.new.index a parts.before parts.after apart.0 apart.1 (subst (IsIndexed t.ids) parts.whole c.self.invariant.indexed)
          (subst (λ k. IsAt a.adapter a.oid (filter (λ m. not (m == k)) (numbers_of t.ids a.adapter a.oid)) t.ids c.remove.new.index) (sym its)
          (subst (λ oid. IsAt a.adapter oid (filter (λ m. not (m == c.args.number)) (numbers_of t.ids a.adapter oid)) t.ids c.remove.new.index)
          c.as_slice-oid.ensures.value c.remove.ensures)));
      covered =
          covers_rest is_leaving (λ x. not (p x)) t.rows.entries c.remove-gone.new.self.entries kept table.keyed table.ordered t.leaving.keys c.strike.new.leaving.keys
          (struck_stays c.args.number c.remove-gone.new.self.entries c.remove-gone.ensures.updates.1 t.leaving.keys c.strike.new.leaving.keys
          c.strike.ensures.others)
          c.self.invariant.covered;
      noted =
          noted_struck (λ x. not (p x)) t.rows.entries c.remove-gone.new.self.entries kept table.keyed table.ordered t.passing c.strike-2.new.self
          c.strike-2.ensures.whole c.strike-2.ensures.own
          (struck_stays c.args.number c.remove-gone.new.self.entries c.remove-gone.ensures.updates.1 t.passing.numbers.items
          c.strike-2.new.self.numbers.items c.strike-2.ensures.others) c.self.invariant.noted;
    })
