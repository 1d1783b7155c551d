-- Rows in the order of their arriving, and the one row of a target among them.
use Rattle.std.proofs.Common.{◌≡◌, ℕ, ◌<◌, ◌≤◌, zero, suc, Bool, true, false, not, List, [], ◌∷◌, drop, filter, length, get_or, cond, nat_lt, Some, Ok, Err, inl, inr, refl, sym, ap₂, arith}
use Rattle.std.specs.List.{remove}
use Rattle.std.specs.List.Sorted.{IsBinarySearchResult}
use Rattle.std.specs.Ordering.{nat_cmp}
use Rattle.std.proofs.lemmas.Bool.{cases_Bool, eqb-true, eq-eqb, false_from_ne_true, ltb-true, ltb-false}
use Rattle.std.proofs.lemmas.Bool.Decides.{nat_tests}
use Rattle.std.proofs.lemmas.Cmp.{ranked}
use Rattle.history_standing.specs.Stages.{is_at}
use Rattle.history_standing.specs.Trees.{In}
use Rattle.history_standing.proofs.Members.{image_in}
use Rattle.core_outboxes.specs.declared.owing.Owing.{Owing}
use Rattle.poa_history.specs.Numbers.{Ascends}
use Rattle.core_outboxes.specs.Owed.{arrivals_of}

get_in : (os : List Owing) (i : ℕ) (d : Owing) → i < length os → In (get_or os i d) os
get_in [] i d low = absurd (omega (arith, low))
get_in (o ∷ os) zero d low = inl refl
get_in (o ∷ os) (suc i) d low = inr (get_in os i d (omega (arith, low)))

behind : (o : Owing) (os : List Owing) → Ascends (arrivals_of (o ∷ os)) → (i : ℕ) (d : Owing) → i < length os → o.arrival < (get_or os i d).arrival
behind o os up i d low = up.0 (get_or os i d).arrival (image_in (λ x. x.arrival) (get_or os i d) os (get_in os i d low))

rises : (os : List Owing) → Ascends (arrivals_of os) → (i j : ℕ) (d : Owing) → i ≤ j → j < length os → (get_or os i d).arrival ≤ (get_or os j d).arrival
rises [] up i j d low within = absurd (omega (arith, within))
rises (o ∷ os) up zero zero d low within = omega arith
rises (o ∷ os) up zero (suc j) d low within = (let less = behind o os up j d (omega (arith, within)) in omega (arith, less))
rises (o ∷ os) up (suc i) zero d low within = absurd (omega (arith, low))
rises (o ∷ os) up (suc i) (suc j) d low within = rises os up.1 i j d (omega (arith, low)) (omega (arith, within))

module _ (r : ℕ) where
  -- a row of the target
  abbrev its : Owing → Bool
  its o = is_at o.arrival (Some r)

  its_is : (o : Owing) → o.arrival ≡ r → its o ≡ true
  its_is o same = eq-eqb r o.arrival (sym same)

  its_not : (o : Owing) → (o.arrival ≡ r → ⊥) → its o ≡ false
  its_not o other = false_from_ne_true (its o) (λ same. other (sym (eqb-true r o.arrival same)))

  -- where no row is the target's, all stay
  pub all_stay : (os : List Owing) → ((i : ℕ) (d : Owing) → i < length os → (get_or os i d).arrival ≡ r → ⊥) → (filter its os ≡ [])
      × (filter (λ o. not (its o)) os ≡ os)
  all_stay [] none = (refl, refl)
  all_stay (o ∷ os) none =
      let rest = all_stay os (λ i d low. none (suc i) d (omega (arith, low))) in
      let other = its_not o (none zero o (omega arith)) in (
        ap₂ (λ b ys. cond b (o ∷ ys) ys) other rest.0,
        ap₂ (λ b ys. cond (not b) (o ∷ ys) ys) other rest.1,
      )

  -- where the rows ascend, the row at its place is the only one of the target
  alone_at : (os : List Owing) (i : ℕ) (d : Owing) → Ascends (arrivals_of os) → i < length os → (get_or os i d).arrival ≡ r
      → (filter its os ≡ get_or os i d ∷ []) × (filter (λ o. not (its o)) os ≡ remove os i)
  alone_at [] i d up low same = absurd (omega (arith, low))
  alone_at (o ∷ os) zero d up low same =
      let rest = all_stay os (λ i e within at. (let less = behind o os up i e within in omega (arith, less, same, at))) in (
        ap₂ (λ b ys. cond b (o ∷ ys) ys) (its_is o same) rest.0,
        ap₂ (λ b ys. cond (not b) (o ∷ ys) ys) (its_is o same) rest.1,
      )
  alone_at (o ∷ os) (suc i) d up low same =
      let rest = alone_at os i d up.1 (omega (arith, low)) same in
      let less = behind o os up i d (omega (arith, low)) in
      let other = its_not o (λ at. (omega (arith, less, same, at))) in (
        ap₂ (λ b ys. cond b (o ∷ ys) ys) other rest.0,
        ap₂ (λ b ys. cond (not b) (o ∷ ys) ys) other rest.1,
      )

  -- where the first row is the target's, it is the only one
  pub first_alone : (os : List Owing) (d : Owing) → Ascends (arrivals_of os) → 0 < length os → (get_or os 0 d).arrival ≡ r
      → (filter its os ≡ get_or os 0 d ∷ []) × (filter (λ o. not (its o)) os ≡ drop 1 os)
  first_alone [] d up some same = absurd (omega (arith, some))
  first_alone (o ∷ os) d up some same = alone_at (o ∷ os) zero d up some same

  -- what the search finds is filed, and nothing else
  pub found : (os : List Owing) (i : ℕ) (d : Owing) → Ascends (arrivals_of os) → i < length os → IsBinarySearchResult (λ o. nat_cmp o.arrival r) os (Ok i)
      → (filter its os ≡ get_or os i d ∷ []) × (filter (λ o. not (its o)) os ≡ remove os i)
  found os i d up low is = alone_at os i d up low (ranked (get_or os i d).arrival r _ (sym (is d)))

  pub missing : (os : List Owing) (i : ℕ) → Ascends (arrivals_of os) → IsBinarySearchResult (λ o. nat_cmp o.arrival r) os (Err i) → (filter its os ≡ [])
      × (filter (λ o. not (its o)) os ≡ os)
  missing os i up is =
      let parted = is (λ a b d le lt. (let up_to = rises os up a b d le lt in grind (arith, nat_tests, up_to))) in
      all_stay os (λ k d within same.
      elim (cases_Bool (nat_lt k i)) [
        | inl low_k ↦ (let less = ranked (get_or os k d).arrival r _ (sym (parted.0 k d (omega arith) (ltb-true k i low_k))) in omega (arith, less, same))
        | inr high_k ↦ (let more = ranked (get_or os k d).arrival r _ (sym (parted.1 k d (ltb-false k i high_k) within)) in omega (arith, more, same))
      ])
