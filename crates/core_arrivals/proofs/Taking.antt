-- A number taken away from numbers that ascend.
use Rattle.std.specs.Prelude.{slice_index_or, Result, Ok, Err, ◌≡◌, ℕ, zero, suc, ◌<◌, ◌≤◌, true, false, not, ◌==◌, nat_lt, cond, List, [], ◌∷◌, drop, length, Option, Some, None, refl}
use Rattle.std.specs.List.{remove}
use Rattle.std.specs.Option.{OnSome, is_some}
use Rattle.std.specs.Result.{OnOk, OnErr}
use Rattle.std.specs.List.Sorted.{IsBinarySearchResult}
use Rattle.std.specs.Ordering.{nat_cmp}
use Rattle.std.proofs.lemmas.List.Sorted.{searched}
use Rattle.std.proofs.Common.{inl, inr, sym, ap₂, arith}
use Rattle.std.proofs.lemmas.Bool.{cases_Bool, eqb-true, eq-eqb, false_from_ne_true, ltb-true, ltb-false}
use Rattle.history_standing.specs.Trees.{In}
use Rattle.poa_history.specs.Numbers.{Ascends}
use Rattle.core_arrivals.specs.Numbers.{without}
use Rattle.core_arrivals.proofs.Numbers.{rises, in_get}

-- one that isn't there takes none away
none_taken : (r : ℕ) (xs : List ℕ) → (In r xs → ⊥) → without r xs ≡ xs
none_taken r [] none = refl
none_taken r (x ∷ xs) none =
    ap₂ (λ b ys. cond (not b) (x ∷ ys) ys) (false_from_ne_true (x == r) (λ same. none (inl (sym (eqb-true x r same))))) (none_taken r xs (λ is. none (inr is)))

one_taken : (r : ℕ) (xs : List ℕ) (i : ℕ) → Ascends xs → i < length xs → slice_index_or xs i 0 ≡ r → without r xs ≡ remove xs i
one_taken r [] i up low same = absurd (omega (arith, low))
one_taken r (x ∷ xs) zero up low same =
    ap₂ (λ b ys. cond (not b) (x ∷ ys) ys) (eq-eqb x r same) (none_taken r xs (λ again. (let less = up.0 r again in omega (arith, less, same))))
one_taken r (x ∷ xs) (suc i) up low same =
    (let less = up.0 (slice_index_or xs i 0) (at i xs (omega (arith, low))) in
    ap₂ (λ b ys. cond (not b) (x ∷ ys) ys) (false_from_ne_true (x == r) (λ this. (let e = eqb-true x r this in omega (arith, less, same, e))))
    (one_taken r xs i up.1 (omega (arith, low)) same))
  where
    at : (i : ℕ) (xs : List ℕ) → i < length xs → In (slice_index_or xs i 0) xs
    at i [] low = absurd (omega (arith, low))
    at zero (x ∷ xs) low = inl refl
    at (suc i) (x ∷ xs) low = inr (at i xs (omega (arith, low)))

-- where it is the first, the rest is left
pub first_taken : (r : ℕ) (xs : List ℕ) → Ascends xs → 0 < length xs → slice_index_or xs 0 r ≡ r → drop 1 xs ≡ without r xs
first_taken r [] up some same = absurd (omega (arith, some))
first_taken r (x ∷ xs) up some same = sym (one_taken r (x ∷ xs) zero up some same)

-- where the search found it, it stands there alone; else it isn't there
pub found_taken : (xs : List ℕ) (r i : ℕ) → Ascends xs → IsBinarySearchResult (λ y. nat_cmp y r) xs (Ok i) → remove xs i ≡ without r xs
found_taken xs r i up is = (let told = searched xs r (Ok i) is (rises xs up) in sym (one_taken r xs i up told.0 told.1))

pub not_found : (xs : List ℕ) (r i : ℕ) → Ascends xs → IsBinarySearchResult (λ y. nat_cmp y r) xs (Err i) → xs ≡ without r xs
not_found xs r i up is =
    (let told = searched xs r (Err i) is (rises xs up) in
    sym (none_taken r xs (λ there. (let found = in_get r xs there in
    elim (cases_Bool (nat_lt found.0 i)) [
      | inl low ↦ (let less = told.1 found.0 (ltb-true found.0 i low) in let same = found.2 in omega (arith, less, same))
      | inr high ↦ (let more = told.2 found.0 (ltb-false found.0 i high) found.1 in let same = found.2 in omega (arith, more, same))
    ]))))

-- what follows where a call succeeded, and it did
pub ok_given : {T E P : Type 0} (r : Result T E) {len room : ℕ} → OnErr r (room ≤ len) → len < room → OnOk r P → P
ok_given (Ok x) full fits then_is = then_is
ok_given (Err x) full fits then_is = absurd (omega (arith, full, fits))

pub some_given : {A P : Type 0} (o : Option A) → is_some o ≡ true → OnSome o P → P
some_given (Some x) given then_is = then_is
some_given None given then_is = absurd (let e : false ≡ true = given in cc)
