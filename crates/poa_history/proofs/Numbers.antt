-- The numbers below a bound, and what a test keeps of them.
use Rattle.std.proofs.Common.{◌≡◌, ℕ, ◌+◌, ◌<◌, zero, suc, Bool, true, false, ◌&&◌, ◌==◌, nat_lt, List, [], ◌∷◌, ◌++◌, filter, find, length, Some, None, cond, refl, sym, ap, subst, ◌∙◌, inl, inr, arith}
use Rattle.std.specs.Option.{option_or}
use Rattle.std.proofs.lemmas.Bool.{cases_Bool, cond_both, true≢false, eqb-true, eq-eqb, ltb-true, ltb-false}
use Rattle.std.proofs.lemmas.List.{append-nil, length-append}
use Rattle.std.proofs.lemmas.List.Folds.{find-append}
use Rattle.std.proofs.lemmas.List.Elements.{filter-append}
use Rattle.history_standing.specs.Searches.{least, count_below}
use Rattle.history_standing.specs.Trees.{In}
use Rattle.history_standing.proofs.Members.{in_front, in_back, in_either, in_kept}
use Rattle.poa_history.specs.Numbers.{below, Ascends}

-- exactly the numbers below the bound stand there
pub in_below : (k n : ℕ) → In k (below n) → k < n
in_below k zero is = absurd is
in_below k (suc n) is =
    elim (in_either k n (below n) is)
    [ inl before ↦ (let less = in_below k n before in omega (arith, less)) | inr same ↦ (let e : k ≡ n = same in omega (arith, e)) ]

pub below_in : (k n : ℕ) → k < n → In k (below n)
below_in k zero less = absurd (omega (arith, less))
below_in k (suc n) less =
    elim (cases_Bool (k == n)) [
      | inl same ↦ subst (λ x. In x (below n ++ n ∷ [])) (sym (eqb-true k n same)) (in_back n (below n))
      | inr other ↦ in_front k n (below n) (below_in k n (lower k n less other))
    ]
  where
    lower : (k n : ℕ) → k < suc n → (k == n) ≡ false → k < n
    lower k n less other =
        elim (cases_Bool (nat_lt k n)) [
          | inl low ↦ ltb-true k n low
          | inr high ↦ absurd (true≢false (sym (eq-eqb k n (let above = ltb-false k n high in omega (arith, above, less))) ∙ other))
        ]

-- the least number that passes is the first
pub least_found : (p : ℕ → Bool) (n : ℕ) → least p n ≡ find p (below n)
least_found p zero = refl
least_found p (suc n) = ap (λ o. option_or o (cond (p n) (Some n) None)) (least_found p n) ∙ sym (find-append p (below n) (n ∷ []))

-- as many pass as are kept
pub counted : (p : ℕ → Bool) (n : ℕ) → count_below p n ≡ length (filter p (below n))
counted p zero = refl
counted p (suc n) =
    ap (λ k. k + cond (p n) 1 0) (counted p n)
    ∙ elim (p n) as (λ b. length (filter p (below n)) + cond b 1 0 ≡ length (filter p (below n)) + length (cond b (n ∷ []) []))
    [ true ↦ refl | false ↦ refl ]
    ∙ sym (length-append (filter p (below n)) (filter p (n ∷ [])))
    ∙ ap length (sym (filter-append p (below n) (n ∷ [])))

-- keeping twice
pub filter_twice : {A : Type 0} (p q : A → Bool) (xs : List A) → filter q (filter p xs) ≡ filter (λ x. p x && q x) xs
filter_twice p q [] = refl
filter_twice p q (x ∷ xs) =
    elim (p x) as (λ b. filter q (cond b (x ∷ filter p xs) (filter p xs)) ≡ cond (b && q x) (x ∷ filter (λ y. p y && q y) xs) (filter (λ y. p y && q y) xs))
    [ true ↦ ap (λ ys. cond (q x) (x ∷ ys) ys) (filter_twice p q xs) | false ↦ filter_twice p q xs ]

-- what is kept stands in order, each number once
ascends_push : (xs : List ℕ) (y : ℕ) → Ascends xs → ((x : ℕ) → In x xs → x < y) → Ascends (xs ++ y ∷ [])
ascends_push [] y up less = ((λ z none. absurd none), tt)
ascends_push (x ∷ xs) y up less = (
  (λ z is. elim (in_either z y xs is) [ inl before ↦ up.0 z before | inr same ↦ subst (λ v. x < v) (sym same) (less x (inl refl)) ]),
  ascends_push xs y up.1 (λ z is. less z (inr is)),
)

pub ascending : (p : ℕ → Bool) (n : ℕ) → Ascends (filter p (below n))
ascending p zero = tt
ascending p (suc n) =
    subst Ascends (sym (filter-append p (below n) (n ∷ [])))
    (cond_both (p n) (n ∷ []) [] (λ ys. Ascends (filter p (below n) ++ ys))
    (λ _. ascends_push (filter p (below n)) n (ascending p n) (λ x is. in_below x n (in_kept p x (below n) is).0))
    (λ _. subst Ascends (sym (append-nil (filter p (below n)))) (ascending p n)))
