-- An activation is etherealized exactly where an entry of a worker that was etherealizing it says so.
use Rattle.history_laws.proofs.Begun.{told_after}
use Rattle.history_laws.specs.Undone.{is_removing, was_told}
use Rattle.poa_base.specs.declared.Config.{Config}
use Rattle.poa_base.specs.declared.Entry.{Entry}
use Rattle.poa_base.specs.declared.Entry.TheVariants.{Abandon, Admit, Arrive, Collect, Done, Entered, Etherealized, Filled, Incarnated, Left, Run, TakeOut, Tried}
use Rattle.poa_history.proofs.ActivationsFrom.{activation_from, begun as activation_begun, stood as activation_stood}
use Rattle.poa_history.proofs.AloneKept.{all_open}
use Rattle.poa_history.proofs.EndingsAre.{more_activations}
use Rattle.poa_history.proofs.LegalSound.{legal_sound}
use Rattle.poa_history.proofs.MannedKept.{all_manned}
use Rattle.poa_history.proofs.SettledKept.{or_first, or_second}
use Rattle.poa_history.specs.Alone.{IsGivenAlone}
use Rattle.poa_history.specs.Bounds.{IsWithinLimits}
use Rattle.history_standing.specs.Changes.{standing}
use Rattle.poa_history.specs.InFlight.{Holds}
use Rattle.poa_history.specs.Legal.{IsLegal}
use Rattle.poa_history.specs.Sound.{IsGiven}
use Rattle.history_standing.specs.Stages.{stage}
use Rattle.history_standing.specs.declared.activation.Activation.{Activation}
use Rattle.history_standing.specs.declared.stage.Stage.{Stage}
use Rattle.history_standing.specs.declared.stage.Stage.TheVariants.{Free, Incarnating, Ran, Removing, Serving, Trying}
use Rattle.history_standing.specs.Trees.{In}
use Rattle.std.proofs.Common.{◌∙◌, ap, arith, inl, inr, subst, sym}
use Rattle.std.proofs.lemmas.Bool.{eq-eqb, eqb-true, or_cases, true≢false}
use Rattle.std.specs.Prelude.{◌<◌, ◌∷◌, ◌≡◌, ◌⊎◌, Bool, List, [], false, length, refl, true, ℕ}
use Rattle.history_standing.proofs.Tests.{same_test}

module _ (c : Config) (run limit : ℕ) (given : IsGiven c run) (alone : IsGivenAlone c run) (within : IsWithinLimits c limit) where
  removing_is : (n : ℕ) (b : Stage) → is_removing n b ≡ true → b ≡ Removing n
  removing_is n (Removing m) is = ap (λ k. Removing k) (eqb-true m n is)
  removing_is n Free is = absurd (let f : false ≡ true = is in cc)
  removing_is n (Trying r) is = absurd (let f : false ≡ true = is in cc)
  removing_is n (Incarnating r m) is = absurd (let f : false ≡ true = is in cc)
  removing_is n (Serving r) is = absurd (let f : false ≡ true = is in cc)
  removing_is n (Ran r) is = absurd (let f : false ≡ true = is in cc)

  told_later : (e : Entry) (past : List Entry) (n : ℕ) → was_told past n ≡ true → was_told (e ∷ past) n ≡ true
  told_later (Entered conn) past n is = is
  told_later (Arrive conn size call) past n is = is
  told_later (Filled conn size) past n is = is
  told_later (Left conn) past n is = is
  told_later (Collect conn a) past n is = is
  told_later (Admit w r v) past n is = is
  told_later (Tried w a) past n is = is
  told_later (Incarnated w a) past n is = is
  told_later (Run w) past n is = is
  told_later (Done w) past n is = is
  told_later (TakeOut w m x) past n is = is
  told_later (Etherealized w x y) past n is = or_second (is_removing n (stage past w)) (was_told past n) is
  told_later (Abandon w) past n is = is

  told_before : (e : Entry) (past : List Entry) (n : ℕ) → was_told (e ∷ past) n ≡ true → (was_told past n ≡ true)
      ⊎ ((w : ℕ) × (x : Bool) × (y : Bool) × (e ≡ Etherealized w x y) × (stage past w ≡ Removing n))
  told_before (Entered conn) past n is = inl is
  told_before (Arrive conn size call) past n is = inl is
  told_before (Filled conn size) past n is = inl is
  told_before (Left conn) past n is = inl is
  told_before (Collect conn a) past n is = inl is
  told_before (Admit w r v) past n is = inl is
  told_before (Tried w a) past n is = inl is
  told_before (Incarnated w a) past n is = inl is
  told_before (Run w) past n is = inl is
  told_before (Done w) past n is = inl is
  told_before (TakeOut w m x) past n is = inl is
  told_before (Etherealized w x y) past n is =
      elim (or_cases (is_removing n (stage past w)) (was_told past n) is)
      [ inl now ↦ inr (w, x, y, refl, removing_is n (stage past w) now) | inr was ↦ inl was ]
  told_before (Abandon w) past n is = inl is

  -- what was etherealized was begun
  told_begun : (h : List Entry) → IsLegal c run limit h → (n : ℕ) → was_told h n ≡ true → n < length (standing c run h).activations
  told_begun [] legal n is = absurd (let f : false ≡ true = is in cc)
  told_begun (e ∷ past) legal n is =
      let more = more_activations c run past e in
      elim (told_before e past n is) [
        | inl was ↦ (let low = told_begun past legal.1 n was in omega (arith, low, more))
        | inr now ↦
            (let holds : Holds past (standing c run past) (Removing n) =
            subst (λ b. Holds past (standing c run past) b) now.4 ((all_manned c run limit past given alone within legal.1).stages now.0) in
            let low = (legal_sound c run limit past given within legal.1).counted holds.0 holds.1 in
            let at = holds.2 in omega (arith, low, more, at))
      ]

  told_step : (past : List Entry) (e : Entry) → IsLegal c run limit (e ∷ past)
      → ((a : Activation) → In a (standing c run past).activations → a.etherealized ≡ was_told past a.number) → (b : Activation)
      → In b (standing c run (e ∷ past)).activations → b.etherealized ≡ was_told (e ∷ past) b.number
  told_step past e legal before_ b there = same_test b.etherealized (was_told (e ∷ past) b.number) forth back
    where
      forth : b.etherealized ≡ true → was_told (e ∷ past) b.number ≡ true
      forth told =
          elim (activation_from c run past e b there) [
            | activation_begun fresh ↦ absurd (true≢false (sym told ∙ fresh.etherealized))
            | activation_stood a is step ↦ elim (step.told_back told) [
              | inl before ↦ told_later e past b.number (ap (was_told past) step.later.number ∙ (sym (before_ a is) ∙ before))
              | inr tells ↦ ap (λ z. was_told (z ∷ past) b.number) tells.3
                  ∙ or_first (is_removing b.number (stage past tells.0)) (was_told past b.number)
                  (ap (is_removing b.number) tells.4 ∙ eq-eqb a.number b.number (sym step.later.number))
            ]
          ]

      back : was_told (e ∷ past) b.number ≡ true → b.etherealized ≡ true
      back told =
          elim (told_before e past b.number told) [
            | inr now ↦ told_after c run past now.0 b.number e now.1 now.2 now.4 now.3 b there refl
            | inl was ↦ elim (activation_from c run past e b there) [
              | activation_begun fresh ↦ absurd (let low = told_begun past legal.1 b.number was in let at = fresh.number in omega (arith, low, at))
              | activation_stood a is step ↦ step.later.etherealized (before_ a is ∙ (ap (was_told past) (sym step.later.number) ∙ was))
            ]
          ]

  pub told_is : (h : List Entry) → IsLegal c run limit h → (a : Activation) → In a (standing c run h).activations → a.etherealized ≡ was_told h a.number
  told_is [] legal a there = (all_open c run a there).2
  told_is (e ∷ past) legal b there = told_step past e legal (told_is past legal.1) b there
