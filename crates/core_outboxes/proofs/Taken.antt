-- The first element that passes is taken out of a list.
use Rattle.std.proofs.Common.{◌≡◌, ℕ, ◌+◌, suc, Bool, true, false, not, List, [], ◌∷◌, ◌++◌, filter, find, take, drop, cond, length, slice_get, Some, None, refl, sym, ap, subst, ◌∙◌, arith}
use Rattle.std.specs.List.{position_or_len}

abbrev pub without : {A : Type 0} (p : A → Bool) → List A → List A
without p xs = take (position_or_len p xs) xs ++ drop (suc (position_or_len p xs)) xs

pub none_taken : {A : Type 0} (p : A → Bool) (xs : List A) → find p xs ≡ None → without p xs ≡ xs
none_taken p [] is = refl
none_taken p (x ∷ xs) is =
    elim (p x) as (λ b. cond b (Some x) (find p xs) ≡ None
    → take (cond (not b) (1 + position_or_len p xs) 0) (x ∷ xs) ++ drop (suc (cond (not b) (1 + position_or_len p xs) 0)) (x ∷ xs) ≡ x ∷ xs) [
      | true ↦ (λ some. absurd (let e : Some x ≡ None = some in cc))
      | false ↦ (λ further. (let next : suc (position_or_len p xs) ≡ 1 + position_or_len p xs = omega arith in
          subst (λ n. take n (x ∷ xs) ++ drop (suc n) (x ∷ xs) ≡ x ∷ xs) next (ap (λ ys. x ∷ ys) (none_taken p xs further))))
    ] is

after : (a b : ℕ) → a + 1 ≡ b → suc a + 1 ≡ suc b
after a b is = omega (arith, is)

pub one_taken : {A : Type 0} (p : A → Bool) (a : A) (xs : List A) → find p xs ≡ Some a → length (without p xs) + 1 ≡ length xs
one_taken p a [] is = absurd (let e : None ≡ Some a = is in cc)
one_taken p a (x ∷ xs) is =
    elim (p x) as (λ b. cond b (Some x) (find p xs) ≡ Some a
    → length (take (cond (not b) (1 + position_or_len p xs) 0) (x ∷ xs) ++ drop (suc (cond (not b) (1 + position_or_len p xs) 0)) (x ∷ xs)) + 1 ≡ suc
    (length xs)) [
      | true ↦ (λ some. (let e : length xs + 1 ≡ suc (length xs) = omega arith in e))
      | false ↦ (λ further. (let next : suc (position_or_len p xs) ≡ 1 + position_or_len p xs = omega arith in
          let rest = one_taken p a xs further in
          subst (λ n. length (take n (x ∷ xs) ++ drop (suc n) (x ∷ xs)) + 1 ≡ suc (length xs)) next
          (after (length (take (position_or_len p xs) xs ++ drop (suc (position_or_len p xs)) xs)) (length xs) rest)))
    ] is

-- it is the first of those that pass
pub first_found : {A : Type 0} (p : A → Bool) (xs : List A) → slice_get (filter p xs) 0 ≡ find p xs
first_found p [] = refl
first_found p (x ∷ xs) =
    elim (p x) as (λ b. slice_get (cond b (x ∷ filter p xs) (filter p xs)) 0 ≡ cond b (Some x) (find p xs)) [ true ↦ refl | false ↦ first_found p xs ]

-- of those that pass, the others are left
pub others_left : {A : Type 0} (p : A → Bool) (xs : List A) → filter p (without p xs) ≡ drop 1 (filter p xs)
others_left p [] = refl
others_left p (x ∷ xs) =
    elim (p x) as (λ b. p x ≡ b
    → filter p (take (cond (not b) (1 + position_or_len p xs) 0) (x ∷ xs) ++ drop (suc (cond (not b) (1 + position_or_len p xs) 0)) (x ∷ xs))
    ≡ drop 1 (cond b (x ∷ filter p xs) (filter p xs))) [
      | true ↦ (λ _. refl)
      | false ↦ (λ no. (let next : suc (position_or_len p xs) ≡ 1 + position_or_len p xs = omega arith in
          subst (λ n. filter p (take n (x ∷ xs) ++ drop (suc n) (x ∷ xs)) ≡ drop 1 (filter p xs)) next
          (ap (λ b. cond b (x ∷ filter p (without p xs)) (filter p (without p xs))) no ∙ others_left p xs)))
    ] refl

-- those that pass a test that it doesn't pass are all left
pub apart_left : {A : Type 0} (p q : A → Bool) (xs : List A) → ((x : A) → p x ≡ true → q x ≡ false) → filter q (without p xs) ≡ filter q xs
apart_left p q [] apart = refl
apart_left p q (x ∷ xs) apart =
    elim (p x) as (λ b. p x ≡ b
    → filter q (take (cond (not b) (1 + position_or_len p xs) 0) (x ∷ xs) ++ drop (suc (cond (not b) (1 + position_or_len p xs) 0)) (x ∷ xs))
    ≡ filter q (x ∷ xs)) [
      | true ↦ (λ yes. sym (ap (λ b. cond b (x ∷ filter q xs) (filter q xs)) (apart x yes)))
      | false ↦ (λ _. (let next : suc (position_or_len p xs) ≡ 1 + position_or_len p xs = omega arith in
          subst (λ n. filter q (take n (x ∷ xs) ++ drop (suc n) (x ∷ xs)) ≡ filter q (x ∷ xs)) next
          (ap (λ ys. cond (q x) (x ∷ ys) ys) (apart_left p q xs apart))))
    ] refl
