-- An activation is out exactly where it was taken out, or has run out in an adapter without a servant activator.
use Rattle.std.specs.Prelude.{◌≡◌, ℕ, ◌<◌, Bool, true, false, not, ◌&&◌, ◌||◌, ◌==◌, if◌then◌else◌, List, [], ◌∷◌, length, ◌⊎◌, refl}
use Rattle.std.proofs.Common.{inl, inr, sym, subst, ap, ap₂, ◌∙◌, arith}
use Rattle.std.proofs.lemmas.Bool.{cond_both, and_parts, or_cases, true≢false, eqb-true, eq-eqb}
use Rattle.poa_base.specs.declared.Config.{Config}
use Rattle.poa_base.specs.declared.Sid.{Sid}
use Rattle.poa_base.specs.declared.Entry.{Entry}
use Rattle.poa_base.specs.declared.Entry.TheVariants.{Entered, Arrive, Filled, Left, Collect, Admit, Tried, Incarnated, Run, Done, TakeOut, Etherealized, Abandon}
use Rattle.history_standing.specs.declared.activation.Activation.{Activation}
use Rattle.history_standing.specs.declared.activation.Phase.{Phase}
use Rattle.history_standing.specs.declared.activation.Phase.TheVariants.{Begun, Complete, Void}
use Rattle.history_standing.specs.Trees.{In}
use Rattle.history_standing.specs.Templates.{has_activator}
use Rattle.history_standing.specs.Standings.{is_complete, is_ending, is_void, is_used}
use Rattle.history_standing.specs.Ends.{is_left, let_out}
use Rattle.history_standing.specs.Changes.{standing, changed, at_number, is_elsewhere}
use Rattle.history_standing.specs.Situations.{is_changing}
use Rattle.poa_history.specs.Legal.{MayFollow, IsLegal}
use Rattle.poa_history.specs.Sound.{IsGiven}
use Rattle.poa_history.specs.Bounds.{IsWithinLimits}
use Rattle.poa_history.specs.Alone.{IsGivenAlone}
use Rattle.poa_history.specs.Out.{was_taken, has_run_out}
use Rattle.history_standing.proofs.Members.{in_image, image_in}
use Rattle.poa_history.proofs.ActivationsLater.{later_let_out}
use Rattle.poa_history.proofs.TurnTells.{takeout_is}
use Rattle.poa_history.proofs.ActivationsFrom.{stood, begun, activation_from}
use Rattle.poa_history.proofs.AloneKept.{all_open}
use Rattle.poa_history.proofs.EndingsAre.{more_activations}
use Rattle.poa_history.proofs.LegalSound.{legal_sound}
use Rattle.poa_history.proofs.MannedKept.{out_unused, all_manned}
use Rattle.history_standing.proofs.Tests.{same_test, not_false}

taken_later : (e : Entry) (past : List Entry) (n : ℕ) → was_taken past n ≡ true → was_taken (e ∷ past) n ≡ true
taken_later (Entered conn) past n is = is
taken_later (Arrive conn size call) past n is = is
taken_later (Filled conn size) past n is = is
taken_later (Left conn) past n is = is
taken_later (Collect conn a) past n is = is
taken_later (Admit w r v) past n is = is
taken_later (Tried w a) past n is = is
taken_later (Incarnated w a) past n is = is
taken_later (Run w) past n is = is
taken_later (Done w) past n is = is
taken_later (TakeOut w m x) past n is = elim (m == n) as (λ b. (b || was_taken past n) ≡ true) [ true ↦ refl | false ↦ is ]
taken_later (Etherealized w x y) past n is = is
taken_later (Abandon w) past n is = is

taken_before : (e : Entry) (past : List Entry) (n : ℕ) → was_taken (e ∷ past) n ≡ true → (was_taken past n ≡ true)
    ⊎ ((w : ℕ) × (x : Bool) × (e ≡ TakeOut w n x))
taken_before (Entered conn) past n is = inl is
taken_before (Arrive conn size call) past n is = inl is
taken_before (Filled conn size) past n is = inl is
taken_before (Left conn) past n is = inl is
taken_before (Collect conn a) past n is = inl is
taken_before (Admit w r v) past n is = inl is
taken_before (Tried w a) past n is = inl is
taken_before (Incarnated w a) past n is = inl is
taken_before (Run w) past n is = inl is
taken_before (Done w) past n is = inl is
taken_before (TakeOut w m x) past n is =
    elim (or_cases (m == n) (was_taken past n) is) [ inl now ↦ inr (w, x, ap (λ k. TakeOut w k x) (eqb-true m n now)) | inr was ↦ inl was ]
taken_before (Etherealized w x y) past n is = inl is
taken_before (Abandon w) past n is = inl is

-- an activation that is complete has a servant, and isn't void
phase_of : (p : Phase) → (elim p [ Complete s ↦ true | Begun ↦ false | Void ↦ false ]) ≡ true → (t : Sid) × (p ≡ Complete t)
phase_of (Complete t) is = (t, refl)
phase_of Begun is = absurd (let e : false ≡ true = is in cc)
phase_of Void is = absurd (let e : false ≡ true = is in cc)

complete_by : (a : Activation) (t : Sid) → a.phase ≡ Complete t → is_complete a ≡ true
complete_by a t at = ap (λ p. elim p [ Complete s ↦ true | Begun ↦ false | Void ↦ false ]) at

ending_by : (a : Activation) → is_complete a ≡ true → a.ending ≡ true → is_ending a ≡ true
ending_by a complete ending =
    let phase = phase_of a.phase complete in
    ap₂ (λ x p. x && not (elim p as (λ _. Bool) [ Void ↦ true | Begun ↦ false | Complete s ↦ false ])) ending phase.1

module _ (c : Config) (run limit : ℕ) (given : IsGiven c run) (alone : IsGivenAlone c run) (within : IsWithinLimits c limit) where
  -- what was taken out was begun
  taken_begun : (h : List Entry) → IsLegal c run limit h → (n : ℕ) → was_taken h n ≡ true → n < length (standing c run h).activations
  taken_begun [] legal n is = absurd (let e : false ≡ true = is in cc)
  taken_begun (e ∷ past) legal n is =
      let more = more_activations c run past e in
      elim (taken_before e past n is) [
        | inl was ↦ (let low = taken_begun past legal.1 n was in omega (arith, low, more))
        | inr now ↦ (let it = takeout_is c run past now.0 n now.1 (subst (λ x. MayFollow c run limit past x) now.2 legal.0) in
            let low = (legal_sound c run limit past given within legal.1).counted it.it it.there in
            let at = it.numbered in omega (arith, low, more, at))
      ]

  -- an activation that is taken out is out
  taken_now : (past : List Entry) (e : Entry) → IsLegal c run limit (e ∷ past) → (w n : ℕ) (x : Bool) → e ≡ TakeOut w n x → (b : Activation)
      → In b (standing c run (e ∷ past)).activations → b.number ≡ n → b.out ≡ true
  taken_now past e legal w n x is b there at =
      let s = standing c run past in
      let s1 = changed c run past e s in
      let it = takeout_is c run past w n x (subst (λ y. MayFollow c run limit past y) is legal.0) in
      let y : Activation = at_number n (λ a. record a { out = true; remaining = is_elsewhere s.activations a }) it.it in
      let y_is : y ≡ record it.it { out = true; remaining = is_elsewhere s.activations it.it } =
      ap (λ z. if z then record it.it { out = true; remaining = is_elsewhere s.activations it.it } else it.it) (eq-eqb it.it.number n it.numbered) in
      let in_y : In y s1.activations =
      subst (λ z. In y (changed c run past z s).activations) (sym is)
      (image_in (at_number n (λ a. record a { out = true; remaining = is_elsewhere s.activations a })) it.it s.activations it.there) in
      let later = later_let_out c s1 y in
      let same : let_out c s1 y ≡ b =
      (legal_sound c run limit (e ∷ past) given within legal).activation_alone (let_out c s1 y) b (image_in (let_out c s1) y s1.activations in_y) there
      (later.number ∙ (ap (λ z. z.number) y_is ∙ (it.numbered ∙ sym at))) in
      ap (λ z. z.out) (sym same) ∙ later.out (ap (λ z. z.out) y_is)

  taken_step : (past : List Entry) (e : Entry) → IsLegal c run limit (e ∷ past)
      → ((a : Activation) → In a (standing c run past).activations → has_activator c a.path ≡ true → a.out ≡ was_taken past a.number) → (b : Activation)
      → In b (standing c run (e ∷ past)).activations → has_activator c b.path ≡ true → b.out ≡ was_taken (e ∷ past) b.number
  taken_step past e legal before_ b there activator = same_test b.out (was_taken (e ∷ past) b.number) forth back
    where
      forth : b.out ≡ true → was_taken (e ∷ past) b.number ≡ true
      forth out =
          elim (activation_from c run past e b there) [
            | begun fresh ↦ absurd (true≢false (sym out ∙ fresh.out))
            | stood a is step ↦ elim (step.out_back out) [
              | inl before ↦
                  taken_later e past b.number
                  (ap (was_taken past) step.later.number ∙ (sym (before_ a is (ap (has_activator c) (sym step.later.path) ∙ activator)) ∙ before))
              | inr other ↦ elim other [
                | inl leaves ↦ absurd (true≢false (sym activator ∙ leaves.0))
                | inr takes ↦ (let is' : e ≡ TakeOut takes.0 b.number takes.1 = takes.2 ∙ ap (λ n. TakeOut takes.0 n takes.1) (sym step.later.number) in
                    ap (λ z. was_taken (z ∷ past) b.number) is' ∙ ap (λ x. x || was_taken past b.number) (eq-eqb b.number b.number refl))
              ]
            ]
          ]

      back : was_taken (e ∷ past) b.number ≡ true → b.out ≡ true
      back taken =
          elim (taken_before e past b.number taken) [
            | inr now ↦ taken_now past e legal now.0 b.number now.1 now.2 b there refl
            | inl was ↦ elim (activation_from c run past e b there) [
              | begun fresh ↦ absurd (let low = taken_begun past legal.1 b.number was in let at = fresh.number in omega (arith, low, at))
              | stood a is step ↦
                  step.later.out (before_ a is (ap (has_activator c) (sym step.later.path) ∙ activator) ∙ (ap (was_taken past) (sym step.later.number) ∙ was))
            ]
          ]

  pub out_taken : (h : List Entry) → IsLegal c run limit h → (a : Activation) → In a (standing c run h).activations → has_activator c a.path ≡ true
      → a.out ≡ was_taken h a.number
  out_taken [] legal a there activator = (all_open c run a there).0
  out_taken (e ∷ past) legal b there activator = taken_step past e legal (out_taken past legal.1) b there activator

  -- what is out has a servant
  pub out_complete : (h : List Entry) → IsLegal c run limit h → (a : Activation) → In a (standing c run h).activations → a.out ≡ true → is_complete a ≡ true
  out_complete [] legal a there out = absurd (true≢false (sym out ∙ (all_open c run a there).0))
  out_complete (e ∷ past) legal b there out =
      elim (activation_from c run past e b there) [
        | begun fresh ↦ absurd (true≢false (sym out ∙ fresh.out))
        | stood a is step ↦ elim (step.out_back out) [
          | inl before ↦ (let phase = phase_of a.phase (out_complete past legal.1 a is before) in complete_by b phase.0 (step.later.served phase.0 phase.1))
          | inr other ↦ elim other [
            | inl leaves ↦ leaves.3
            | inr takes ↦ (let it = takeout_is c run past takes.0 a.number takes.1 (subst (λ x. MayFollow c run limit past x) takes.2 legal.0) in
                let same : it.it ≡ a = (legal_sound c run limit past given within legal.1).activation_alone it.it a it.there is it.numbered in
                let due =
                and_parts (is_complete it.it && (is_ending it.it && (has_activator c it.it.path && not it.it.out)))
                (not (is_used (standing c run past).flights it.it.number) && not (is_changing c (standing c run past).activations it.it.adapter)) it.due in
                let phase =
                phase_of a.phase
                (ap is_complete (sym same) ∙ (and_parts (is_complete it.it) (is_ending it.it && (has_activator c it.it.path && not it.it.out)) due.0).0) in
                complete_by b phase.0 (step.later.served phase.0 phase.1))
          ]
        ]
      ]

  pub out_run_out : (h : List Entry) → IsLegal c run limit h → (a : Activation) → In a (standing c run h).activations → has_activator c a.path ≡ false
      → a.out ≡ has_run_out (standing c run h) a
  out_run_out h legal a there none = same_test a.out (has_run_out (standing c run h) a) (forth h legal a there) (back h legal a there none)
    where
      forth : (h : List Entry) → IsLegal c run limit h → (a : Activation) → In a (standing c run h).activations → a.out ≡ true
          → has_run_out (standing c run h) a ≡ true
      forth h legal a there out =
          let complete = out_complete h legal a there out in
          ap₂ (λ x y. x && y) complete
          (ap₂ (λ x y. x && y) (ending_by a complete ((all_manned c run limit h given alone within legal).out_ending a there out))
          (not_false (is_used (standing c run h).flights a.number)
          (out_unused c run h (all_manned c run limit h given alone within legal) (legal_sound c run limit h given within legal) a there out)))

      back : (h : List Entry) → IsLegal c run limit h → (a : Activation) → In a (standing c run h).activations → has_activator c a.path ≡ false
          → has_run_out (standing c run h) a ≡ true → a.out ≡ true
      back [] legal a there none over =
          absurd (let ends = and_parts (is_complete a) (is_ending a && not (is_used (standing c run []).flights a.number)) over in
          let ending = and_parts (is_ending a) (not (is_used (standing c run []).flights a.number)) ends.1 in
          true≢false (sym (and_parts a.ending (not (is_void a)) ending.0).0 ∙ (all_open c run a there).3))
      back (e ∷ past) legal b there none over =
          let s1 = changed c run past e (standing c run past) in
          let found = in_image (let_out c s1) b s1.activations there in
          subst (λ x. x.out ≡ true) (sym found.2)
          (cond_both (is_left c s1 found.0) (record found.0 { out = true }) found.0 (λ x. b ≡ x → x.out ≡ true) (λ _ _. refl)
          (λ stays same. absurd
          (true≢false
          (sym (ap₂ (λ x y. x && y) (not_false (has_activator c found.0.path) (ap (λ x. has_activator c x.path) (sym same) ∙ none))
          (ap (has_run_out s1) (sym same) ∙ over)) ∙ stays))) found.2)
