-- Where no call waits for anything, an entry decides its target alone.
use Rattle.std.proofs.Common.{◌≡◌, ℕ, Bool, true, false, not, ◌||◌, ◌==◌, List, [], ◌∷◌, map, filter, Option, Some, None, is_some, inl, inr, refl, sym, ap, ap₂, ◌∙◌}
use Rattle.std.specs.List.{list_any}
use Rattle.std.proofs.lemmas.Bool.{cond_both}
use Rattle.poa_base.specs.declared.Config.{Config}
use Rattle.history_standing.specs.Stages.{is_at}
use Rattle.history_standing.specs.Standings.{Standing}
use Rattle.history_standing.specs.Trees.{In}
use Rattle.core_outboxes.specs.declared.owing.Owing.{Owing}
use Rattle.core_outboxes.specs.declared.wait.Wait.{Wait}
use Rattle.core_outboxes.specs.declared.wait.Ordered.{Ordered}
use Rattle.core_outboxes.specs.Waits.{has_come}
use Rattle.core_outboxes.specs.Owed.{has_wait}
use Rattle.core_outboxes.specs.Desk.{is_decided, set_wait}
use Rattle.core_outboxes.proofs.Lists.{filter_agrees}

first : (a b : Bool) → (a || b) ≡ false → a ≡ false
first true b is = is
first false b is = refl

second : (a b : Bool) → (a || b) ≡ false → b ≡ false
second true b is = absurd (let e : true ≡ false = is in cc)
second false b is = is

or_false : (a : Bool) → (a || false) ≡ a
or_false true = refl
or_false false = refl

-- where no row waits, one that is to wait for nothing is as it was
pub unset : (r : ℕ) (os : List Owing) → list_any has_wait os ≡ false → map (set_wait r None) os ≡ os
unset r [] none = refl
unset r (o ∷ os) none =
    ap₂ (λ x xs. x ∷ xs) (unset_one r o (first (has_wait o) (list_any has_wait os) none)) (unset r os (second (has_wait o) (list_any has_wait os) none))
  where
    unset_row : (r : ℕ) (o : Owing) (wait : Option Wait) → o.wait ≡ wait → is_some wait ≡ false → set_wait r None o ≡ o
    unset_row r o None at none =
        cond_both (o.arrival == r) (record o { wait = None }) o (λ p. p ≡ o) (λ _. ap (λ w. record o { wait = w }) (sym at)) (λ _. refl)
    unset_row r o (Some w) at none = absurd (let e : true ≡ false = none in cc)

    unset_one : (r : ℕ) (o : Owing) → has_wait o ≡ false → set_wait r None o ≡ o
    unset_one r o none = unset_row r o o.wait refl none

none_in : (o : Owing) (os : List Owing) → list_any has_wait os ≡ false → In o os → has_wait o ≡ false
none_in o [] none there = absurd there
none_in o (p ∷ ps) none (inl same) = ap has_wait same ∙ first (has_wait p) (list_any has_wait ps) none
none_in o (p ∷ ps) none (inr more) = none_in o ps (second (has_wait p) (list_any has_wait ps) none) more

-- where no row waits, an entry decides its target alone
target_alone : (c : Config) (s : Standing) (target : Option ℕ) (ordered : Option Ordered) (os : List Owing) → list_any has_wait os ≡ false
    → (o : Owing) → In o os → is_at o.arrival target ≡ is_decided c s target ordered o
target_alone c s target ordered os none o there = by_wait o.wait refl
  where
    waits_none : has_wait o ≡ false
    waits_none = none_in o os none there

    by_wait : (wait : Option Wait) → o.wait ≡ wait
        → is_at o.arrival target ≡ (is_at o.arrival target || (elim o.wait [ Some w ↦ has_come c s ordered o.arrival w | None ↦ false ]))
    by_wait None at =
        sym (ap (λ w. is_at o.arrival target || (elim w [ Some x ↦ has_come c s ordered o.arrival x | None ↦ false ])) at ∙ or_false (is_at o.arrival target))
    by_wait (Some w) at = absurd (let e : true ≡ false = sym (ap is_some at) ∙ waits_none in cc)

pub decided_alone : (c : Config) (s : Standing) (target : Option ℕ) (ordered : Option Ordered) (os : List Owing) → list_any has_wait os ≡ false
    → (filter (λ o. is_at o.arrival target) os ≡ filter (is_decided c s target ordered) os)
    × (filter (λ o. not (is_at o.arrival target)) os ≡ filter (λ o. not (is_decided c s target ordered o)) os)
decided_alone c s target ordered os none =
    let alone = target_alone c s target ordered os none in (
      filter_agrees (λ o. is_at o.arrival target) (is_decided c s target ordered) os alone,
      filter_agrees (λ o. not (is_at o.arrival target)) (λ o. not (is_decided c s target ordered o)) os (λ o there. ap not (alone o there)),
    )

-- where nothing is the target, nothing is filed
all_but_none : (os : List Owing) → (filter (λ o. is_at o.arrival None) os ≡ []) × (filter (λ o. not (is_at o.arrival None)) os ≡ os)
all_but_none [] = (refl, refl)
all_but_none (o ∷ os) = (let rest = all_but_none os in (rest.0, ap (λ xs. o ∷ xs) rest.1))

-- so where it decides nothing, all stay
pub all_stay : (c : Config) (s : Standing) (target : Option ℕ) (ordered : Option Ordered) (os : List Owing) → list_any has_wait os ≡ false → target ≡ None
    → (filter (is_decided c s target ordered) os ≡ []) × (os ≡ filter (λ o. not (is_decided c s target ordered o)) os)
all_stay c s target ordered os none no_target =
    let alone = decided_alone c s target ordered os none in (
      sym alone.0 ∙ ap (λ t. filter (λ o. is_at o.arrival t) os) no_target ∙ (all_but_none os).0,
      sym (all_but_none os).1 ∙ ap (λ t. filter (λ o. not (is_at o.arrival t)) os) (sym no_target) ∙ alone.1,
    )

-- of rows that don't wait none does that is kept
pub kept_none : (p : Owing → Bool) (os : List Owing) → list_any has_wait os ≡ false → list_any has_wait (filter p os) ≡ false
kept_none p [] none = refl
kept_none p (o ∷ os) none =
    let rest = kept_none p os (second (has_wait o) (list_any has_wait os) none) in
    cond_both (p o) (o ∷ filter p os) (filter p os) (λ xs. list_any has_wait xs ≡ false)
    (λ _. ap₂ (λ a b. a || b) (first (has_wait o) (list_any has_wait os) none) rest) (λ _. rest)

pub none_given : (wait : Option Wait) → is_some wait ≡ false → wait ≡ None
none_given None none = refl
none_given (Some w) none = absurd (let e : true ≡ false = none in cc)
