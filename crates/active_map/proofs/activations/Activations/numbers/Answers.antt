use Rattle.std.proofs.Common.{◌+◌, length, arith, subst, sym}
use Rattle.history_standing.specs.Trees.{In}
use Rattle.active_map.specs.Tables.{Table}
use Rattle.active_map.proofs.IdsKept.{earlier_less, number_alone}
use Rattle.active_map.proofs.activations.Activations.numbers.Goals as goal

pub returns-clause-fit : goal.returns-clause-fit
returns-clause-fit c = λ a there.
    (let t = c.self.inside in
    let low = earlier_less (t.forgotten + length t.rows.entries) t.rows.entries c.self.invariant.table.keyed c.self.invariant.table.earlier a
    (subst (λ (u : Table). In a u.kept) (sym c.self.view_is) there) in
    let few = c.self.invariant.table.few in
    omega (arith, low, few))

pub returns-clause-alone : goal.returns-clause-alone
returns-clause-alone c = λ a b a_in b_in.
    (let t = c.self.inside in
    number_alone t.rows.entries c.self.invariant.table.keyed c.self.invariant.table.ordered a b
    (subst (λ (u : Table). In a u.kept) (sym c.self.view_is) a_in) (subst (λ (u : Table). In b u.kept) (sym c.self.view_is) b_in))
