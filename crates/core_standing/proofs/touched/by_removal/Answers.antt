use Rattle.std.proofs.Common.{refl, subst, sym, true}
use Rattle.std.proofs.lemmas.Bool.{eq-eqb}
use Rattle.history_standing.specs.Changes as changes
use Rattle.core_standing.specs.declared.touched.Touched.TheVariants.{One}
use Rattle.core_standing.specs.Touched.{Others, SameOthers, is_touched}
use Rattle.core_standing.proofs.Staying.{changed_others, same_changed, still_others}
use Rattle.core_standing.proofs.touched.by_removal.Goals as goal

pub returns-in-Removing-clause-leaves : goal.returns-in-Removing-clause-leaves
returns-in-Removing-clause-leaves c = λ conf s still.
    (let n = c.in-Removing.number in
    subst (λ stage. Others conf (is_touched (One n)) (changes.with_etherealized stage s)) (sym c.in-Removing.is)
    (changed_others conf (is_touched (One n)) s n (λ a. record a { etherealized = true }) (eq-eqb n n refl) (λ a. refl)
    (still_others conf (is_touched (One n)) s still)))

pub returns-in-Removing-clause-same : goal.returns-in-Removing-clause-same
returns-in-Removing-clause-same c = λ s.
    (let n = c.in-Removing.number in
    subst (λ stage. SameOthers (is_touched (One n)) s.activations (changes.with_etherealized stage s).activations) (sym c.in-Removing.is)
    (same_changed (is_touched (One n)) s.activations n (λ a. record a { etherealized = true }) (eq-eqb n n refl) (λ a. refl)))
