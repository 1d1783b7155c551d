use Rattle.std.proofs.Common.{◌≡◌, ◌==◌, ℕ, List, find, sym, subst}
use Rattle.std.specs.List.{filter_map}
use Rattle.std.specs.Map.{values_of}
use Rattle.active_map.specs.Tables.{Table}
use Rattle.active_map.proofs.Covering.{first_by_numbers}
use Rattle.active_map.proofs.RowsKept.{row_found}
use Rattle.active_map.proofs.activations.Activations.leaving.Goals as goal

pub returns-clause-finds : goal.returns-clause-finds
returns-clause-finds c = λ p leaves.
    (let t = c.self.inside in
    subst (λ (u : Table). find p (filter_map (λ n. find (λ a. a.number == n) u.kept) c.iter.result) ≡ find p u.kept) c.self.view_is
    (subst (λ (ns : List ℕ). find p (filter_map (λ n. find (λ a. a.number == n) (values_of t.rows.entries)) ns) ≡ find p (values_of t.rows.entries))
    (sym c.iter.ensures.rest)
    (first_by_numbers p t.rows.entries c.self.invariant.table.keyed c.self.invariant.table.ordered
    (λ n. find (λ a. a.number == n) (values_of t.rows.entries)) (λ n. sym (row_found n t.rows.entries c.self.invariant.table.keyed)) t.leaving.keys
    c.iter.ensures.ordered (λ b there passes. c.self.invariant.covered b there (leaves b passes)))))
