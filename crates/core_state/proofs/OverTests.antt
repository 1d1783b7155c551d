-- What is asked of an activation that is over.
use Rattle.std.specs.Prelude.{◌≡◌, Bool, true, false, not, ◌&&◌, ◌||◌, refl}
use Rattle.std.proofs.Common.{inl, inr, sym, ap, ap₂, ◌∙◌}
use Rattle.std.proofs.lemmas.Bool.{or_cases, and_parts, false_from_ne_true, true≢false}
use Rattle.poa_base.specs.declared.Config.{Config}
use Rattle.poa_base.specs.declared.Sid.{Sid}
use Rattle.history_standing.specs.declared.activation.Activation.{Activation}
use Rattle.history_standing.specs.declared.activation.Phase.{Phase}
use Rattle.history_standing.specs.declared.activation.Phase.TheVariants.{Begun, Complete, Void}
use Rattle.history_standing.specs.Ends.{is_over, is_finished}
use Rattle.history_standing.specs.Situations.{is_unfinished}
use Rattle.history_standing.specs.Standings.{is_active, is_begun, is_complete, is_void}
use Rattle.history_standing.specs.Templates.{has_activator}
use Rattle.core_standing.proofs.Behind.{first_fails, second_fails}

pub void_phase : (p : Phase) → (elim p [ Void ↦ true | Begun ↦ false | Complete s ↦ false ]) ≡ true → p ≡ Void
void_phase Void is = refl
void_phase Begun is = absurd (let e : false ≡ true = is in cc)
void_phase (Complete s) is = absurd (let e : false ≡ true = is in cc)

complete_only : (p : Phase) → (elim p [ Complete s ↦ true | Begun ↦ false | Void ↦ false ]) ≡ true
    → ((elim p [ Begun ↦ true | Complete s ↦ false | Void ↦ false ]) ≡ false) × ((elim p [ Void ↦ true | Begun ↦ false | Complete s ↦ false ]) ≡ false)
complete_only (Complete s) is = (refl, refl)
complete_only Begun is = absurd (let e : false ≡ true = is in cc)
complete_only Void is = absurd (let e : false ≡ true = is in cc)

-- of one that isn't void the phase is known by what it isn't
module _ (c : Config) (a : Activation) where
  pub incomplete : is_void a ≡ true → is_complete a ≡ false
  incomplete void = ap (λ p. elim p [ Complete s ↦ true | Begun ↦ false | Void ↦ false ]) (void_phase a.phase void)

  unbegun : is_void a ≡ true → is_begun a ≡ false
  unbegun void = ap (λ p. elim p [ Begun ↦ true | Complete s ↦ false | Void ↦ false ]) (void_phase a.phase void)

  pub out_of : is_finished c a ≡ true → a.out ≡ true
  out_of finished = (and_parts a.out _ finished).0

  -- what is out was ending: so no id is served by one that is over
  pub inactive : (a.out ≡ true → a.ending ≡ true) → is_over c a ≡ true → is_active a ≡ false
  inactive ends over =
      elim (or_cases (is_void a) (is_finished c a) over) [
        | inl void ↦ first_fails (is_complete a) (not a.ending) (incomplete void)
        | inr finished ↦ second_fails (is_complete a) (not a.ending) (ap not (ends (out_of finished)))
      ]

  -- what is out had its servant: so nothing is unfinished of one that is over
  pub unchanging : (a.out ≡ true → is_complete a ≡ true) → is_over c a ≡ true → is_unfinished c a ≡ false
  unchanging complete over =
      elim (or_cases (is_void a) (is_finished c a) over) [
        | inl void ↦
            ap₂ (λ x y. x || (y && not (is_finished c a))) (unbegun void) (false_from_ne_true a.out (λ out. true≢false (sym (complete out) ∙ incomplete void)))
        | inr finished ↦ ap₂ (λ x y. x || y) (complete_only a.phase (complete (out_of finished))).0 (second_fails a.out _ (ap not finished))
      ]

  -- it isn't to be taken out
  pub undue : (told : Bool) → is_over c a ≡ true → (is_complete a && (told && (has_activator c a.path && not a.out))) ≡ false
  undue told over =
      elim (or_cases (is_void a) (is_finished c a) over) [
        | inl void ↦ first_fails (is_complete a) _ (incomplete void)
        | inr finished ↦ second_fails (is_complete a) _ (second_fails told _ (second_fails (has_activator c a.path) _ (ap not (out_of finished))))
      ]

  -- what is being brought is not over, where what is out has its servant
  pub begun_lives : (a.out ≡ true → is_complete a ≡ true) → a.phase ≡ Begun → is_over c a ≡ false
  begun_lives complete begun =
      ap₂ (λ x y. x || y) (ap (λ p. elim p [ Void ↦ true | Begun ↦ false | Complete s ↦ false ]) begun)
      (first_fails a.out _
      (false_from_ne_true a.out (λ out. true≢false (sym (complete out) ∙ ap (λ p. elim p [ Complete s ↦ true | Begun ↦ false | Void ↦ false ]) begun))))

  -- what has its servant and isn't out is not over
  pub served_lives : (t : Sid) → a.phase ≡ Complete t → a.out ≡ false → is_over c a ≡ false
  served_lives t complete in_ = ap₂ (λ x y. x || y) (ap (λ p. elim p [ Void ↦ true | Begun ↦ false | Complete s ↦ false ]) complete) (first_fails a.out _ in_)

  -- what is out, and whose servant activator wasn't told yet, is not over
  pub untold_lives : is_complete a ≡ true → has_activator c a.path ≡ true → a.quiet ≡ false → a.etherealized ≡ false → is_over c a ≡ false
  untold_lives complete told loud first =
      ap₂ (λ x y. x || y) (complete_only a.phase complete).1
      (second_fails a.out _ (ap₂ (λ x y. x || y) loud (ap₂ (λ x y. not x || y) told first)))
