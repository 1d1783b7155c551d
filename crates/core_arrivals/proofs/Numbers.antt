-- What a test keeps of the numbers below a bound.
use Rattle.std.specs.Prelude.{slice_index_or, is_ok, Result, Ok, Err, ◌≡◌, ℕ, zero, suc, ◌<◌, ◌≤◌, Bool, true, false, not, ◌&&◌, ◌||◌, ◌==◌, nat_lt, cond, if◌then◌else◌, List, [], ◌∷◌, ◌++◌, length, filter, Option, Some, None, refl}
use Rattle.std.specs.List.{insert, list_any}
use Rattle.std.specs.List.Sorted.{IsBinarySearchResult}
use Rattle.std.specs.Ordering.{nat_cmp}
use Rattle.std.proofs.lemmas.List.Sorted.{searched}
use Rattle.std.specs.Option.{option_or}
use Rattle.std.proofs.Common.{inl, inr, sym, subst, ap, ap₂, ◌∙◌, arith}
use Rattle.std.proofs.lemmas.Bool.{cases_Bool, cond_both, true≢false, eqb-true, eq-eqb, ltb-true, ltb-false, lt-ltb, false_from_ne_true}
use Rattle.std.proofs.lemmas.List.{append-nil}
use Rattle.std.proofs.lemmas.List.Elements.{filter-append}
use Rattle.history_standing.specs.Searches.{first_given}
use Rattle.history_standing.specs.Trees.{In}
use Rattle.history_standing.proofs.Members.{in_kept, kept_in, any_in}
use Rattle.poa_history.specs.Numbers.{below, Ascends}
use Rattle.poa_history.proofs.Numbers.{in_below, below_in, filter_twice}
use Rattle.core_arrivals.specs.Numbers.{inserted, without, first_in}

-- tests that agree below the bound keep the same
pub same_below : (p q : ℕ → Bool) (n : ℕ) → ((k : ℕ) → k < n → p k ≡ q k) → filter p (below n) ≡ filter q (below n)
same_below p q zero same = refl
same_below p q (suc n) same =
    filter-append p (below n) (n ∷ [])
    ∙ (ap₂ (λ xs b. xs ++ cond b (n ∷ []) []) (same_below p q n (λ k less. same k (omega (arith, less)))) (same n (omega arith))
    ∙ sym (filter-append q (below n) (n ∷ [])))

-- a number less
pub one_less : (p q : ℕ → Bool) (n r : ℕ) → ((k : ℕ) → k < n → q k ≡ (p k && not (k == r))) → filter q (below n) ≡ without r (filter p (below n))
one_less p q n r less = same_below q (λ k. p k && not (k == r)) n less ∙ sym (filter_twice p (λ k. not (k == r)) (below n))

-- a number more
all_pass : (p : ℕ → Bool) (xs : List ℕ) → ((x : ℕ) → In x xs → p x ≡ true) → filter p xs ≡ xs
all_pass p [] pass = refl
all_pass p (x ∷ xs) pass = ap₂ (λ b ys. cond b (x ∷ ys) ys) (pass x (inl refl)) (all_pass p xs (λ y is. pass y (inr is)))

less_kept : (p : ℕ → Bool) (n r : ℕ) → n ≤ r → filter (λ x. nat_lt x r) (filter p (below n)) ≡ filter p (below n)
less_kept p n r low =
    all_pass (λ x. nat_lt x r) (filter p (below n)) (λ x is. lt-ltb x r (let less = in_below x n (in_kept p x (below n) is).0 in omega (arith, less, low)))

insert_end : (xs : List ℕ) (r : ℕ) → insert xs (length xs) r ≡ xs ++ r ∷ []
insert_end [] r = refl
insert_end (x ∷ xs) r = ap (λ ys. x ∷ ys) (insert_end xs r)

insert_more : (xs ys : List ℕ) (i r : ℕ) → i ≤ length xs → insert (xs ++ ys) i r ≡ insert xs i r ++ ys
insert_more xs ys zero r low = refl
insert_more [] ys (suc i) r low = absurd (omega (arith, low))
insert_more (x ∷ xs) ys (suc i) r low = ap (λ zs. x ∷ zs) (insert_more xs ys i r (omega (arith, low)))

pub kept_length : (p : ℕ → Bool) (xs : List ℕ) → length (filter p xs) ≤ length xs
kept_length p [] = omega arith
kept_length p (x ∷ xs) =
    (let more = kept_length p xs in
    cond_both (p x) (x ∷ filter p xs) (filter p xs) (λ ys. length ys ≤ suc (length xs)) (λ _. omega (arith, more)) (λ _. omega (arith, more)))

-- one that isn't less is put in no other place
insert_high : (xs : List ℕ) (k r : ℕ) → r ≤ k → inserted r (xs ++ k ∷ []) ≡ inserted r xs ++ k ∷ []
insert_high xs k r high =
    ap (λ m. insert (xs ++ k ∷ []) m r)
    (ap length
    (filter-append (λ x. nat_lt x r) xs (k ∷ [])
    ∙ (ap (λ b. filter (λ x. nat_lt x r) xs ++ cond b (k ∷ []) []) not_less ∙ append-nil (filter (λ x. nat_lt x r) xs))))
    ∙ insert_more xs (k ∷ []) (length (filter (λ x. nat_lt x r) xs)) r (kept_length (λ x. nat_lt x r) xs)
  where
    not_less : nat_lt k r ≡ false
    not_less = false_from_ne_true (nat_lt k r) (λ less. (let low = ltb-true k r less in omega (arith, low, high)))

pub one_more : (p q : ℕ → Bool) (n r : ℕ) → r < n → p r ≡ false → q r ≡ true → ((k : ℕ) → k < n → (k ≡ r → ⊥) → q k ≡ p k)
    → filter q (below n) ≡ inserted r (filter p (below n))
one_more p q zero r less out in_ same = absurd (omega (arith, less))
one_more p q (suc n) r less out in_ same =
    elim (cases_Bool (r == n)) [
      | inl at ↦ last (eqb-true r n at)
      | inr other ↦ before (one_more p q n r (lower other) out in_ (λ k low not_r. same k (omega (arith, low)) not_r)) (lower other)
    ]
  where
    lower : (r == n) ≡ false → r < n
    lower other =
        elim (cases_Bool (nat_lt r n)) [
          | inl low ↦ ltb-true r n low
          | inr high ↦ absurd (true≢false (sym (eq-eqb r n (let above = ltb-false r n high in omega (arith, above, less))) ∙ other))
        ]

    last : r ≡ n → filter q (below (suc n)) ≡ inserted r (filter p (below (suc n)))
    last at =
        filter-append q (below n) (n ∷ [])
        ∙ (ap₂ (λ xs b. xs ++ cond b (n ∷ []) [])
        (same_below q p n (λ k low. same k (omega (arith, low)) (λ is. (let e : k ≡ r = is in omega (arith, e, at, low))))) (ap q (sym at) ∙ in_)
        ∙ (ap (λ x. filter p (below n) ++ x ∷ []) (sym at)
        ∙ (sym (insert_end (filter p (below n)) r)
        ∙ (ap (λ xs. insert (filter p (below n)) (length xs) r) (sym (less_kept p n r (omega (arith, at))))
        ∙ ap (inserted r)
        (sym (filter-append p (below n) (n ∷ [])
        ∙ (ap (λ b. filter p (below n) ++ cond b (n ∷ []) []) (ap p (sym at) ∙ out) ∙ append-nil (filter p (below n)))))))))

    before : filter q (below n) ≡ inserted r (filter p (below n)) → r < n → filter q (below (suc n)) ≡ inserted r (filter p (below (suc n)))
    before so_far low =
        filter-append q (below n) (n ∷ [])
        ∙ (ap₂ (λ xs b. xs ++ cond b (n ∷ []) []) so_far (same n (omega arith) (λ is. (let e : n ≡ r = is in omega (arith, e, low))))
        ∙ (cond_both (p n) (n ∷ []) [] (λ ys. inserted r (filter p (below n)) ++ ys ≡ inserted r (filter p (below n) ++ ys))
        (λ _. sym (insert_high (filter p (below n)) n r (omega (arith, low))))
        (λ _. append-nil (inserted r (filter p (below n))) ∙ ap (inserted r) (sym (append-nil (filter p (below n)))))
        ∙ ap (inserted r) (sym (filter-append p (below n) (n ∷ [])))))

-- the first that is given is given by the first of those that pass
or_or : {A : Type 0} (a b c : Option A) → option_or (option_or a b) c ≡ option_or a (option_or b c)
or_or None b c = refl
or_or (Some x) b c = refl

first_append : {A : Type 0} (give : ℕ → Option A) (xs ys : List ℕ) → first_in give (xs ++ ys) ≡ option_or (first_in give xs) (first_in give ys)
first_append give [] ys = refl
first_append give (x ∷ xs) ys = ap (option_or (give x)) (first_append give xs ys) ∙ sym (or_or (give x) (first_in give xs) (first_in give ys))

or_none : {A : Type 0} (a : Option A) → option_or a None ≡ a
or_none None = refl
or_none (Some x) = refl

pub first_kept : {A : Type 0} (p : ℕ → Bool) (give : ℕ → Option A) (n : ℕ)
    → first_given (λ r. if p r then give r else None) n ≡ first_in give (filter p (below n))
first_kept p give zero = refl
first_kept p give (suc n) =
    ap (λ o. option_or o (if p n then give n else None)) (first_kept p give n)
    ∙ (cond_both (p n) (n ∷ []) []
    (λ ys. option_or (first_in give (filter p (below n))) (if p n then give n else None) ≡ option_or (first_in give (filter p (below n))) (first_in give ys))
    (λ passes. ap (option_or (first_in give (filter p (below n)))) (ap (λ b. if b then give n else None) passes ∙ sym (or_none (give n))))
    (λ fails. ap (option_or (first_in give (filter p (below n)))) (ap (λ b. if b then give n else None) fails))
    ∙ sym (ap (first_in give) (filter-append p (below n) (n ∷ [])) ∙ first_append give (filter p (below n)) (cond (p n) (n ∷ []) [])))

-- a number is among those kept where it passes
none_in : (r : ℕ) (xs : List ℕ) → (In r xs → ⊥) → list_any (λ x. x == r) xs ≡ false
none_in r [] none = refl
none_in r (x ∷ xs) none =
    ap₂ (λ a b. a || b) (false_from_ne_true (x == r) (λ same. none (inl (sym (eqb-true x r same))))) (none_in r xs (λ is. none (inr is)))

pub any_kept : (p : ℕ → Bool) (n r : ℕ) → (n ≤ r → p r ≡ false) → list_any (λ x. x == r) (filter p (below n)) ≡ p r
any_kept p n r beyond =
    elim (cases_Bool (p r)) [
      | inl passes ↦ any_in (λ x. x == r) r (filter p (below n)) (kept_in p r (below n) (below_in r n (lower passes)) passes) (eq-eqb r r refl) ∙ sym passes
      | inr fails ↦ none_in r (filter p (below n)) (λ is. true≢false (sym (in_kept p r (below n) is).1 ∙ fails)) ∙ sym fails
    ]
  where
    lower : p r ≡ true → r < n
    lower passes =
        elim (cases_Bool (nat_lt r n)) [
          | inl low ↦ ltb-true r n low
          | inr high ↦ absurd (true≢false (sym passes ∙ beyond (ltb-false r n high)))
        ]

-- a number is found among numbers that ascend
get_in : (xs : List ℕ) (i : ℕ) → i < length xs → In (slice_index_or xs i 0) xs
get_in [] i low = absurd (omega (arith, low))
get_in (x ∷ xs) zero low = inl refl
get_in (x ∷ xs) (suc i) low = inr (get_in xs i (omega (arith, low)))

pub in_get : (r : ℕ) (xs : List ℕ) → In r xs → (i : ℕ) × (i < length xs) × (slice_index_or xs i 0 ≡ r)
in_get r [] is = absurd is
in_get r (x ∷ xs) (inl same) = (zero, omega arith, sym same)
in_get r (x ∷ xs) (inr more) = (let found = in_get r xs more in (suc found.0, (let low = found.1 in omega (arith, low)), found.2))

pub rises : (xs : List ℕ) → Ascends xs → (i j : ℕ) → i ≤ j → j < length xs → slice_index_or xs i 0 ≤ slice_index_or xs j 0
rises [] up i j low within = absurd (omega (arith, within))
rises (x ∷ xs) up zero zero low within = omega arith
rises (x ∷ xs) up zero (suc j) low within = (let less = up.0 (slice_index_or xs j 0) (get_in xs j (omega (arith, within))) in omega (arith, less))
rises (x ∷ xs) up (suc i) zero low within = absurd (omega (arith, low))
rises (x ∷ xs) up (suc i) (suc j) low within = rises xs up.1 i j (omega (arith, low)) (omega (arith, within))

pub is_found : (xs : List ℕ) (r : ℕ) (at : Result ℕ ℕ) → Ascends xs → IsBinarySearchResult (λ y. nat_cmp y r) xs at → is_ok at ≡ list_any (λ x. x == r) xs
is_found xs r (Ok i) up is =
    (let told = searched xs r (Ok i) is (rises xs up) in
    sym (any_in (λ x. x == r) r xs (subst (λ x. In x xs) told.1 (get_in xs i told.0)) (eq-eqb r r refl)))
is_found xs r (Err i) up is =
    (let told = searched xs r (Err i) is (rises xs up) in
    sym (none_in r xs (λ there. (let found = in_get r xs there in
    elim (cases_Bool (nat_lt found.0 i)) [
      | inl low ↦ (let less = told.1 found.0 (ltb-true found.0 i low) in let same = found.2 in omega (arith, less, same))
      | inr high ↦ (let more = told.2 found.0 (ltb-false found.0 i high) found.1 in let same = found.2 in omega (arith, more, same))
    ]))))
