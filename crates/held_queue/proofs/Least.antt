-- The top of a heap of numbers, the least first.
use Rattle.std.specs.Prelude.{◌≡◌, ℕ, ◌≤◌, ◌==◌, Bool, true, false, ◌||◌, List, [], ◌∷◌, Result, Ok, Err, IsOk, OnOk, Option, Some, None, IsSome, ◌↔◌, refl}
use Rattle.std.specs.BinaryHeap.{IsUpperBound}
use Rattle.std.specs.List.{list_any}
use Rattle.std.specs.Ordering.{nat_cmp}
use Rattle.std.specs.declared.cmp.Reverse.{Reverse}
use Rattle.std.proofs.Common.{inl, inr, subst}
use Rattle.std.proofs.lemmas.Bool.{or_cases, eqb-true, false≢true}
use Rattle.std.proofs.lemmas.Map.Keys.{ge_from_not_lt}

-- no number is less than one that none is above in the turned order
pub bound_least : (x : Reverse ℕ) (xs : List (Reverse ℕ)) → IsUpperBound (λ a b. nat_cmp b.0 a.0) x xs → (r : ℕ) → list_any (λ y. y.0 == r) xs ≡ true → x.0 ≤ r
bound_least x [] bound r is = absurd (let e : false ≡ true = is in cc)
bound_least x (y ∷ ys) bound r is =
    elim (or_cases (y.0 == r) (list_any (λ z. z.0 == r) ys) is) [
      | inl here ↦ subst (λ n. x.0 ≤ n) (eqb-true y.0 r here) (ge_from_not_lt y.0 x.0 bound.0)
      | inr more ↦ bound_least x ys bound.1 r more
    ]

-- what holds of a call that succeeds
pub at_ok : {T E P : Type 0} (r : Result T E) → IsOk r → OnOk r P → P
at_ok (Ok x) is holds = holds
at_ok (Err e) is holds = absurd (let f : false ≡ true = is in cc)

-- what is so where a value comes, and isn't where none does
pub not_there : {X P : Type 0} (o : Option X) → (IsSome o ↔ P) → o ≡ None → P → ⊥
not_there None h is p = false≢true (h.1 p)
not_there (Some x) h is p = cc

pub is_there : {X P : Type 0} (o : Option X) (x : X) → (IsSome o ↔ P) → o ≡ Some x → P
is_there None x h is = cc
is_there (Some y) x h is = h.0 refl
