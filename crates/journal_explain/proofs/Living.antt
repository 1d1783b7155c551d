-- Whether an activation is active, by what a run keeps.
use Rattle.std.proofs.Common.{◌≡◌, ℕ, ◌==◌, Bool, true, false, not, ◌&&◌, ◌||◌, cond, List, [], ◌∷◌, find, Option, Some, refl, sym, ap, ◌∙◌, inl, inr}
use Rattle.std.specs.List.{list_any}
use Rattle.std.proofs.lemmas.Bool.{and_parts, eqb-true, false_from_ne_true, or_cases, true≢false}
use Rattle.poa_base.specs.declared.Config.{Config}
use Rattle.history_standing.specs.declared.activation.Activation.{Activation}
use Rattle.history_standing.specs.declared.activation.Phase.{Phase}
use Rattle.history_standing.specs.declared.activation.Phase.TheVariants.{Begun, Complete, Void}
use Rattle.history_standing.specs.Changes.{standing}
use Rattle.history_standing.specs.Ends.{is_finished, is_over}
use Rattle.history_standing.specs.Standings.{is_active, is_complete, is_void}
use Rattle.history_standing.specs.Trees.{In}
use Rattle.history_standing.proofs.Members.{some_in}
use Rattle.poa_history.specs.Life.{Life, opened}
use Rattle.poa_history.specs.Runs.{IsRun}
use Rattle.poa_history.proofs.MannedKept.{all_manned}
use Rattle.history_laws.proofs.Opened.{alone, given, within}
use Rattle.core_standing.specs.Seen.{forgotten, seen}
use Rattle.core_standing.proofs.Behind.{any_behind, first_fails, second_fails}
use Rattle.core_standing.proofs.Kept.{any_alike}
use Rattle.core_state.specs.State.{StateAgrees}
use Rattle.core_state.specs.declared.state.State.{State}
use Rattle.journal_explain.specs.Serving.{is_serving}
use Rattle.journal_explain.specs.Watching.{active_in}

-- an activation without a servant isn't active, and none that is out is
unmanned : (p : Phase) → (elim p [ Void ↦ true | Begun ↦ false | Complete s ↦ false ]) ≡ true
    → (elim p [ Complete s ↦ true | Begun ↦ false | Void ↦ false ]) ≡ false
unmanned Void is = refl
unmanned Begun is = refl
unmanned (Complete s) is = absurd (true≢false (sym is))

over_idle : (c : Config) (a : Activation) → (a.out ≡ true → a.ending ≡ true) → is_over c a ≡ true → is_active a ≡ false
over_idle c a ends over =
    elim (or_cases (is_void a) (is_finished c a) over) [
      | inl void ↦ first_fails (is_complete a) (not a.ending) (unmanned a.phase void)
      | inr finished ↦ second_fails (is_complete a) (not a.ending) (ap not (ends (and_parts a.out _ finished).0))
    ]

-- the activation has this number and is active
abbrev at : ℕ → Activation → Bool
at n a = (a.number == n) && is_active a

or_idle : (x y : Bool) → (x ≡ false → y ≡ false) → x ≡ (x || y)
or_idle true y idle = refl
or_idle false y idle = sym (idle refl)

-- where a number is that of one activation, the one that is found by it tells
found_active : (n : ℕ) (as' : List Activation) → ((a b : Activation) → In a as' → In b as' → a.number ≡ b.number → a ≡ b)
    → active_in (find (λ a. a.number == n) as') ≡ list_any (at n) as'
found_active n [] one = refl
found_active n (a ∷ as') one =
    elim (a.number == n) as (λ b. (a.number == n) ≡ b
    → active_in (cond b (Some a) (find (λ x. x.number == n) as')) ≡ ((b && is_active a) || list_any (at n) as')) [
      | true ↦ (λ is. or_idle (is_active a) (list_any (at n) as') (others is))
      | false ↦ (λ is. found_active n as' (λ x y x_in y_in. one x y (inr x_in) (inr y_in)))
    ] refl
  where
    others : (a.number == n) ≡ true → is_active a ≡ false → list_any (at n) as' ≡ false
    others is idle =
        false_from_ne_true (list_any (at n) as') (λ some. (let found = some_in (at n) as' some in
        let parts = and_parts (found.0.number == n) (is_active found.0) found.2 in
        let same : found.0 ≡ a = one found.0 a (inr found.1) (inl refl) (eqb-true found.0.number n parts.0 ∙ sym (eqb-true a.number n is)) in
        true≢false (sym parts.1 ∙ (ap is_active same ∙ idle))))

-- what is found by it among those that are kept is what the history says
pub serving_is : (life : Life) (s : State) → StateAgrees life.config life.run (opened life) life.history s
    → IsRun life.config life.run life.limit life.history
    → ((a b : Activation) → In a s.standing.activations.kept → In b s.standing.activations.kept → a.number ≡ b.number → a ≡ b)
    → (n : ℕ) (found : Option Activation) → found ≡ find (λ a. a.number == n) s.standing.activations.kept
    → active_in found ≡ is_serving life.config life.run life.history n
serving_is life s is runs one n found by =
    let c = life.config in
    let run = life.run in
    let limit = life.limit in
    let h = life.history in
    let manned = all_manned c run limit h (given c run limit h runs) (alone c run limit h runs) (within c run limit h runs) runs.legal in
    let kept = s.standing.activations in
    ap active_in by
    ∙ (found_active n kept.kept one
    ∙ (sym (any_behind (at n) (second_fails (forgotten.number == n) (is_active forgotten) refl) kept.forgotten kept.kept)
    ∙ any_alike c (standing c run h).activations (seen s.standing).activations is.stands.stands.forgets (at n)
    (second_fails (forgotten.number == n) (is_active forgotten) refl)
    (λ a there over. second_fails (a.number == n) (is_active a) (over_idle c a (manned.out_ending a there) over))))
