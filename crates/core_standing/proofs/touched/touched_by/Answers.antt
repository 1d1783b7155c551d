use Rattle.std.proofs.Common.{◌∙◌, true, inl, inr, refl, subst, sym, ap}
use Rattle.std.proofs.lemmas.Bool.{eq-eqb}
use Rattle.history_standing.specs.Changes as changes
use Rattle.history_standing.specs.Stages.{arrival_in, stage}
use Rattle.poa_history.proofs.Untouched.{activations_fewer, activations_tried}
use Rattle.history_standing.specs.Trees.{In}
use Rattle.poa_history.specs.Entries.{stage_at}
use Rattle.core_standing.specs.declared.touched.Touched.TheVariants.{One}
use Rattle.core_standing.specs.Touched.{Others, SameOthers, is_touched}
use Rattle.core_standing.proofs.Staying.{changed_others, ended_others, same_all, same_changed, still_others, tried_others}
use Rattle.core_standing.proofs.touched.touched_by.Goals as goal

pub returns-in-TakeOut-clause-leaves : goal.returns-in-TakeOut-clause-leaves
returns-in-TakeOut-clause-leaves c = λ conf run past s flown staged still.
    (let n = c.in-TakeOut.activation in
    subst (λ e. Others conf (is_touched (One n)) (changes.changed conf run past e s)) (sym c.in-TakeOut.is)
    (changed_others conf (is_touched (One n)) s n (λ a. record a { out = true; remaining = changes.is_elsewhere s.activations a }) (eq-eqb n n refl)
    (λ a. refl) (still_others conf (is_touched (One n)) s still)))

pub returns-in-Tried-clause-leaves : goal.returns-in-Tried-clause-leaves
returns-in-Tried-clause-leaves c = λ conf run past s flown staged still.
    (let touched = is_touched c.with_ended.result in
    elim c.in-Tried.is [
      | inl it ↦ subst (λ e. Others conf touched (changes.changed conf run past e s)) (sym it.2)
          (tried_others conf touched s (arrival_in (stage past it.0)) it.1
          (λ f q there r. c.with_ended.ensures.each f q (subst (In f) flown there)
          (c.arrival_in.ensures ∙ ap arrival_in (staged ∙ ap (stage_at past) it.2) ∙ r)) still)
      | inr it ↦ subst (λ e. Others conf touched (changes.changed conf run past e s)) (sym it.1)
          (ended_others conf touched s (arrival_in (stage past it.0))
          (λ f q there r. c.with_ended.ensures.each f q (subst (In f) flown there)
          (c.arrival_in.ensures ∙ ap arrival_in (staged ∙ ap (stage_at past) it.1) ∙ r)) (still_others conf touched s still))
    ])

pub returns-in-TakeOut-clause-same : goal.returns-in-TakeOut-clause-same
returns-in-TakeOut-clause-same c = λ conf run past s staged.
    (let n = c.in-TakeOut.activation in
    subst (λ e. SameOthers (is_touched (One n)) s.activations (changes.changed conf run past e s).activations) (sym c.in-TakeOut.is)
    (same_changed (is_touched (One n)) s.activations n (λ a. record a { out = true; remaining = changes.is_elsewhere s.activations a }) (eq-eqb n n refl)
    (λ a. refl)))

pub returns-in-Tried-clause-same : goal.returns-in-Tried-clause-same
returns-in-Tried-clause-same c = λ conf run past s staged.
    (let touched = is_touched c.with_ended.result in
    elim c.in-Tried.is [
      | inl it ↦ subst (λ e. SameOthers touched s.activations (changes.changed conf run past e s).activations) (sym it.2)
          (same_all touched s.activations _ (activations_tried s (arrival_in (stage past it.0)) it.1))
      | inr it ↦ subst (λ e. SameOthers touched s.activations (changes.changed conf run past e s).activations) (sym it.1)
          (same_all touched s.activations _ (activations_fewer s (arrival_in (stage past it.0))))
    ])
