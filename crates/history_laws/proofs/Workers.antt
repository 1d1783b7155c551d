-- An entry of a worker is its next one, and only the sixteen workers have begun anything.
use Rattle.poa_base.specs.declared.Config.{Config}
use Rattle.poa_base.specs.declared.Entry.{Entry}
use Rattle.poa_base.specs.declared.Entry.TheVariants.{Abandon, Admit, Arrive, Collect, Done, Entered, Etherealized, Filled, Incarnated, Left, Run, TakeOut, Tried}
use Rattle.poa_base.specs.declared.Incarnation.{Incarnation}
use Rattle.poa_history.proofs.StagesFrom.{maker, stage_other}
use Rattle.poa_history.proofs.TurnIs.{mapped_by}
use Rattle.history_standing.specs.Changes.{standing}
use Rattle.poa_history.specs.Legal.{IsLegal, IsTurn, MayFollow}
use Rattle.history_standing.specs.Rules.{brought}
use Rattle.history_standing.specs.Stages.{stage}
use Rattle.poa_history.specs.Turns.{activation_numbered, going_on, next_of, turn}
use Rattle.history_standing.specs.declared.stage.Stage.{Stage}
use Rattle.history_standing.specs.declared.stage.Stage.TheVariants.{Free, Incarnating, Ran, Removing, Serving, Trying}
use Rattle.std.proofs.Common.{◌∙◌, ap, arith, inl, inr, subst, sym}
use Rattle.std.proofs.lemmas.Bool.{cases_Bool, eq-eqb, eqb-true, ltb-false, ltb-true, true≢false}
use Rattle.std.specs.Prelude.{◌<◌, ◌==◌, ◌∷◌, ◌≡◌, ◌≤◌, ◌⊎◌, Bool, List, None, Option, Some, [], nat_lt, refl, ℕ}

-- the worker made the entry, or another or none did
pub own_or_other : (e : Entry) (w : ℕ) → (maker e ≡ Some w) ⊎ (maker e ≡ Some w → ⊥)
own_or_other e w =
    elim (maker e) as (λ o. (o ≡ Some w) ⊎ (o ≡ Some w → ⊥)) [
      | None ↦ inr (λ none. cc)
      | Some v ↦
          elim (cases_Bool (v == w)) [
            | inl same ↦ inl (ap (λ x. Some x) (eqb-true v w same))
            | inr differ ↦ inr (λ is. (let is' : Some v ≡ Some w = is in let f : v ≡ w = cc in true≢false (sym (eq-eqb v w f) ∙ differ)))
          ]
    ]

module _ (c : Config) (run limit : ℕ) where
  moved : (past : List Entry) (e : Entry) (v w : ℕ) → Some v ≡ Some w → IsTurn c run past v e → IsTurn c run past w e
  moved past e v w same is = (let f : v ≡ w = cc in subst (λ x. IsTurn c run past x e) f is)

  pub is_turn : (past : List Entry) (e : Entry) (w : ℕ) → MayFollow c run limit past e → maker e ≡ Some w → IsTurn c run past w e
  is_turn past (Entered conn) w may makes = absurd (let f : None ≡ Some w = makes in cc)
  is_turn past (Arrive conn size call) w may makes = absurd (let f : None ≡ Some w = makes in cc)
  is_turn past (Filled conn size) w may makes = absurd (let f : None ≡ Some w = makes in cc)
  is_turn past (Left conn) w may makes = absurd (let f : None ≡ Some w = makes in cc)
  is_turn past (Collect conn a) w may makes = absurd (let f : None ≡ Some w = makes in cc)
  is_turn past (Admit v r u) w may makes = moved past (Admit v r u) v w makes may
  is_turn past (Tried v a) w may makes = moved past (Tried v a) v w makes may
  is_turn past (Incarnated v a) w may makes = moved past (Incarnated v a) v w makes may
  is_turn past (Run v) w may makes = moved past (Run v) v w makes may
  is_turn past (Done v) w may makes = moved past (Done v) v w makes may
  is_turn past (TakeOut v n x) w may makes = moved past (TakeOut v n x) v w makes may
  is_turn past (Etherealized v x y) w may makes = moved past (Etherealized v x y) v w makes may
  is_turn past (Abandon v) w may makes = absurd (let f : None ≡ Some w = makes in cc)

  few_stages : (h : List Entry) → IsLegal c run limit h → (w : ℕ) → 16 ≤ w → stage h w ≡ Free
  few_stages [] legal w high = refl
  few_stages (e ∷ past) legal w high =
      stage_other e past w (λ makes. (let low = (is_turn past e w legal.0 makes).worker in omega (arith, low, high))) ∙ few_stages past legal.1 w high

  -- a worker that has begun something is one of the sixteen
  pub below_sixteen : (h : List Entry) → IsLegal c run limit h → (w : ℕ) → (stage h w ≡ Free → ⊥) → w < 16
  below_sixteen h legal w busy =
      elim (cases_Bool (nat_lt w 16)) [
        | inl low ↦ ltb-true w 16 low
        | inr high ↦ absurd (busy (few_stages h legal w (ltb-false w 16 high)))
      ]

  -- what a worker has begun goes on as its next entry says
  pub goes_with : (h : List Entry) (w : ℕ) (o : Option Entry) (begun : Stage) → turn c run h w ≡ o → stage h w ≡ begun → (begun ≡ Free → ⊥)
      → going_on c (standing c run h) w begun ≡ o
  unfolding turn
  goes_with h w o Free is at busy = absurd (busy refl)
  goes_with h w o (Trying r) is at busy = ap (next_of c run h w) (sym at) ∙ is
  goes_with h w o (Incarnating r n) is at busy = ap (next_of c run h w) (sym at) ∙ is
  goes_with h w o (Serving r) is at busy = ap (next_of c run h w) (sym at) ∙ is
  goes_with h w o (Ran r) is at busy = ap (next_of c run h w) (sym at) ∙ is
  goes_with h w o (Removing n) is at busy = ap (next_of c run h w) (sym at) ∙ is

  -- an incarnation stays begun until its worker ends it
  pub incarnating_after : (past : List Entry) (e : Entry) → MayFollow c run limit past e → (w r n : ℕ) → stage past w ≡ Incarnating r n
      → (stage (e ∷ past) w ≡ Incarnating r n) ⊎ ((a : Incarnation) × (e ≡ Incarnated w a))
  incarnating_after past e may w r n at =
      elim (own_or_other e w) [
        | inr other ↦ inl (stage_other e past w other ∙ at)
        | inl makes ↦ inr (let goes = goes_with past w (Some e) (Incarnating r n) (is_turn past e w may makes).next at (λ f. cc) in
            let found = mapped_by (λ a. Incarnated w (brought c (standing c run past) a)) (activation_numbered (standing c run past) n) e goes in
            (brought c (standing c run past) found.0, sym found.2))
      ]

  -- and an etherealization
  pub removing_after : (past : List Entry) (e : Entry) → MayFollow c run limit past e → (w n : ℕ) → stage past w ≡ Removing n
      → (stage (e ∷ past) w ≡ Removing n) ⊎ ((x : Bool) × (y : Bool) × (e ≡ Etherealized w x y))
  removing_after past e may w n at =
      elim (own_or_other e w) [
        | inr other ↦ inl (stage_other e past w other ∙ at)
        | inl makes ↦ inr (let goes = goes_with past w (Some e) (Removing n) (is_turn past e w may makes).next at (λ f. cc) in
            let found = mapped_by (λ a. Etherealized w a.cleanup a.remaining) (activation_numbered (standing c run past) n) e goes in
            (found.0.cleanup, found.0.remaining, sym found.2))
      ]
