-- The activations that workers are at aren't over.
use Rattle.std.specs.Prelude.{◌≡◌, ℕ, ◌<◌, true, false, not, ◌&&◌, List, [], ◌∷◌, length, Some, None, refl}
use Rattle.std.proofs.Common.{inl, inr, sym, ap, subst, ◌∙◌, arith}
use Rattle.std.proofs.lemmas.Bool.{and_parts}
use Rattle.poa_base.specs.declared.Config.{Config}
use Rattle.poa_base.specs.declared.Entry.{Entry}
use Rattle.history_standing.specs.Trees.{In}
use Rattle.history_standing.specs.declared.activation.Activation.{Activation}
use Rattle.history_standing.specs.declared.stage.Stage.{Stage}
use Rattle.history_standing.specs.declared.stage.Stage.TheVariants.{Free, Trying, Incarnating, Serving, Ran, Removing}
use Rattle.poa_history.specs.Alone.{IsGivenAlone}
use Rattle.poa_history.specs.Bounds.{IsWithinLimits}
use Rattle.history_standing.specs.Changes.{standing}
use Rattle.history_standing.specs.Ends.{is_over}
use Rattle.poa_history.specs.InFlight.{IsManned, Holds, IsRunning, named}
use Rattle.poa_history.specs.Legal.{IsLegal, MayFollow}
use Rattle.history_standing.specs.Situations.{is_changing}
use Rattle.poa_history.specs.Sound.{IsGiven, IsSound}
use Rattle.history_standing.specs.Stages.{stage, admitted}
use Rattle.history_standing.specs.Standings.{is_complete, is_ending, is_used}
use Rattle.history_standing.specs.Templates.{has_activator}
use Rattle.poa_history.proofs.ActivationsFrom.{stood, begun, activation_from}
use Rattle.poa_history.proofs.LegalSound.{legal_sound}
use Rattle.poa_history.proofs.MannedKept.{all_manned}
use Rattle.poa_history.proofs.OutIs.{out_complete}
use Rattle.poa_history.proofs.StagesFrom.{removal_before}
use Rattle.poa_history.proofs.TurnTells.{takeout_is}
use Rattle.core_standing.specs.Answers.{works_on}
use Rattle.core_state.proofs.OverTests.{begun_lives, served_lives, untold_lives}

module _ (c : Config) (run limit : ℕ) (given : IsGiven c run) (alone : IsGivenAlone c run) (within : IsWithinLimits c limit) where
  -- an activation of an earlier number isn't one that was begun just now
  stands_before : (past : List Entry) → IsLegal c run limit past → (w n : ℕ) → stage past w ≡ Removing n → n < length (standing c run past).activations
  stands_before past legal w n at =
      (let it = subst (λ b. Holds past (standing c run past) b) at ((all_manned c run limit past given alone within legal).stages w) in
      let low = (legal_sound c run limit past given within legal).counted it.0 it.1 in
      let same = it.2 in omega (arith, low, same))

  -- a servant activator is to be told of what a worker takes down
  told : (h : List Entry) → IsLegal c run limit h → (w n : ℕ) → stage h w ≡ Removing n → (a : Activation) → In a (standing c run h).activations → a.number ≡ n
      → has_activator c a.path ≡ true
  told [] legal w n at a there number = absurd (let e : Free ≡ Removing n = at in cc)
  told (e ∷ past) legal w n at b there number =
      elim (activation_from c run past e b there) [
        | begun fresh ↦ absurd (let low = earlier in let same = fresh.number in omega (arith, low, same, number))
        | stood a is step ↦ ap (has_activator c) step.later.path
            ∙ elim (removal_before e past w n at) [
              | inl was ↦ told past legal.1 w n was a is (sym step.later.number ∙ number)
              | inr takes ↦ (let it = takeout_is c run past w n true (subst (λ x. MayFollow c run limit past x) takes legal.0) in
                  let same : it.it ≡ a =
                  (legal_sound c run limit past given within legal.1).activation_alone it.it a it.there is
                  (it.numbered ∙ sym (sym step.later.number ∙ number)) in
                  let due =
                  and_parts (is_complete it.it && (is_ending it.it && (has_activator c it.it.path && not it.it.out)))
                  (not (is_used (standing c run past).flights it.it.number) && not (is_changing c (standing c run past).activations it.it.adapter)) it.due in
                  let ends =
                  and_parts (is_ending it.it) (has_activator c it.it.path && not it.it.out)
                  (and_parts (is_complete it.it) (is_ending it.it && (has_activator c it.it.path && not it.it.out)) due.0).1 in
                  ap (λ x. has_activator c x.path) (sym same) ∙ (and_parts (has_activator c it.it.path) (not it.it.out) ends.1).0)
            ]
      ]
    where
      earlier : n < length (standing c run past).activations
      earlier =
          elim (removal_before e past w n at) [
            | inl was ↦ stands_before past legal.1 w n was
            | inr takes ↦ (let it = takeout_is c run past w n true (subst (λ x. MayFollow c run limit past x) takes legal.0) in
                let low = (legal_sound c run limit past given within legal.1).counted it.it it.there in
                let same = it.numbered in omega (arith, low, same))
          ]

  module _ (h : List Entry) (legal : IsLegal c run limit h) where
    manned : IsManned c run h
    manned = all_manned c run limit h given alone within legal

    sound : IsSound c run (standing c run h)
    sound = legal_sound c run limit h given within legal

    complete : (a : Activation) → In a (standing c run h).activations → a.out ≡ true → is_complete a ≡ true
    complete = out_complete c run limit given alone within h legal

    -- the activation stands, and isn't over
    abbrev pub IsLive : ℕ → Type 0
    IsLive n = (a : Activation) × In a (standing c run h).activations × (a.number ≡ n) × (is_over c a ≡ false)

    lives_at : (w : ℕ) (begun_ : Stage) (n : ℕ) → stage h w ≡ begun_ → works_on begun_ ≡ Some n → Holds h (standing c run h) begun_ → IsLive n
    lives_at w (Incarnating r m) n at is it =
        subst IsLive (let e : Some m ≡ Some n = is in let f : m ≡ n = cc in f) (it.2.0, it.2.1, it.2.2, begun_lives c it.2.0 (complete it.2.0 it.2.1) it.2.3)
    lives_at w (Removing m) n at is it =
        subst IsLive (let e : Some m ≡ Some n = is in let f : m ≡ n = cc in f)
        (it.0, it.1, it.2, untold_lives c it.0 (complete it.0 it.1 it.3) (told h legal w m at it.0 it.1 it.2) it.4 it.5)
    lives_at w Free n at is it = absurd (let e : None ≡ Some n = is in cc)
    lives_at w (Trying r) n at is it = absurd (let e : None ≡ Some n = is in cc)
    lives_at w (Serving r) n at is it = absurd (let e : None ≡ Some n = is in cc)
    lives_at w (Ran r) n at is it = absurd (let e : None ≡ Some n = is in cc)

    pub worked_lives : (w n : ℕ) → works_on (stage h w) ≡ Some n → IsLive n
    worked_lives w n is = lives_at w (stage h w) n refl is (manned.stages w)

    -- the activation of a request that a worker serves
    pub served_there : (w r n : ℕ) → stage h w ≡ Serving r → named (admitted h r) ≡ Some n → IsLive n
    served_there w r n at is =
        (let it : IsRunning h (standing c run h) r = subst (λ b. Holds h (standing c run h) b) at (manned.stages w) in
        let names : named (Some it.verdict) ≡ Some n = ap named (sym it.by) ∙ is in
        let a = it.served n names in
        let b = manned.activations it.flying.0 n it.flying.1 (it.flying.3 ∙ names) in
        let same : b.0 ≡ a.0 = sound.activation_alone b.0 a.0 b.1 a.1 (b.2 ∙ sym a.2) in
        (a.0, a.1, a.2, served_lives c a.0 a.3.0 a.3.1 (ap (λ x. x.out) (sym same) ∙ b.4)))
