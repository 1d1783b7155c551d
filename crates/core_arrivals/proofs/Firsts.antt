-- The first number that is given something.
use Rattle.std.specs.Prelude.{◌≡◌, ℕ, zero, suc, ◌<◌, Bool, true, nat_lt, Option, Some, None, ◌⊎◌, refl}
use Rattle.std.specs.Option.{option_or}
use Rattle.std.proofs.Common.{inl, inr, sym, ap, ap₂, ◌∙◌, arith}
use Rattle.std.proofs.lemmas.Bool.{cond_both, cases_eq, ltb-true, ltb-false}
use Rattle.history_standing.specs.Searches.{first_given}
use Rattle.core_arrivals.specs.Firsts.{IsFirst, earlier}

pub given_none : {A : Type 0} (give : ℕ → Option A) (n : ℕ) → ((r : ℕ) → r < n → give r ≡ None) → first_given give n ≡ None
given_none give zero none = refl
given_none give (suc n) none = ap₂ option_or (given_none give n (λ r low. none r (omega (arith, low)))) (none n (omega arith))

pub given_first : {A : Type 0} (give : ℕ → Option A) (n r : ℕ) (x : A) → r < n → give r ≡ Some x → ((q : ℕ) → q < r → give q ≡ None)
    → first_given give n ≡ Some x
given_first give zero r x low is before = absurd (omega (arith, low))
given_first give (suc n) r x low is before =
    elim (cases_eq r n) [
      | inl same ↦ ap₂ option_or (given_none give n (λ q less. before q (omega (arith, less, same)))) (ap give (sym same) ∙ is)
      | inr other ↦ ap (λ o. option_or o (give n)) (given_first give n r x (below low other) is before)
    ]
  where
    below : r < suc n → (r ≡ n → ⊥) → r < n
    below low' other = omega (arith, low', other)

-- the earlier of the first of two kinds is the first of both
module _ {A : Type 0} (one other both : ℕ → Bool) (give : ℕ → Option A) (n : ℕ) (parts : (r : ℕ) → both r ≡ true → (one r ≡ true) ⊎ (other r ≡ true))
    (left : (r : ℕ) → one r ≡ true → both r ≡ true) (right : (r : ℕ) → other r ≡ true → both r ≡ true) where
  pub earlier_first : (a b : Option (ℕ × A)) → IsFirst one give n a → IsFirst other give n b → IsFirst both give n (earlier a b)
  earlier_first None None first second = λ r low is. elim (parts r is) [ inl x ↦ first r low x | inr x ↦ second r low x ]
  earlier_first None (Some b) first second = (
    second.0,
    right b.0 second.1,
    second.2,
    λ r low is. elim (parts r is) [
      | inl x ↦ first r (let less = second.0 in omega (arith, low, less)) x
      | inr x ↦ second.3 r low x
    ],
  )
  earlier_first (Some a) None first second = (
    first.0,
    left a.0 first.1,
    first.2,
    λ r low is. elim (parts r is) [
      | inl x ↦ first.3 r low x
      | inr x ↦ second r (let less = first.0 in omega (arith, low, less)) x
    ],
  )
  earlier_first (Some a) (Some b) first second =
      cond_both (nat_lt a.0 b.0) (Some a) (Some b) (λ o. IsFirst both give n o)
      (λ less. (let lower = ltb-true a.0 b.0 less in
      (first.0, left a.0 first.1, first.2, λ r low is. elim (parts r is) [ inl x ↦ first.3 r low x | inr x ↦ second.3 r (omega (arith, low, lower)) x ])))
      (λ more. (let higher = ltb-false a.0 b.0 more in
      (second.0, right b.0 second.1, second.2, λ r low is. elim (parts r is) [ inl x ↦ first.3 r (omega (arith, low, higher)) x | inr x ↦ second.3 r low x ])))
