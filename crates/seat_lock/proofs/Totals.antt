-- Sums over lists, looked up and changed by position.
use Rattle.std.proofs.Common.{◌≡◌, ℕ, zero, suc, ◌+◌, ◌<◌, ◌≤◌, ◌≢◌, ◌⊎◌, Bool, cond, List, [], ◌∷◌, ◌++◌, length, get_or, set, sym, refl, ap, ◌∙◌, subst, inl, inr, ⊎_elim, eq-eqb, ne_eqb, arith}
use mathlib.Core.Option.{some, some-injective, some-ne-none}
use mathlib.Core.Logic.{dite}
use native.Mathlib.Decide.{ℕ_discrete}
use lib.ListN.{get_elem?}
use Rattle.atomic_table.proofs.Lists.{at_set}
use Rattle.seat_lock.specs.Histories.{total, times, In}

module _ {A : Type 0} where
  -- an element of a list that got one more is an old one, or the new one at the end
  pub at_push : (l : List A) (a b : A) (j : ℕ) → get_elem? (l ++ a ∷ []) j ≡ some b → (get_elem? l j ≡ some b) ⊎ ((j ≡ length l) × (a ≡ b))
  at_push [] a b zero e = inr (refl, some-injective a b e)
  at_push [] a b (suc j) e = absurd (some-ne-none b (sym e))
  at_push (x ∷ xs) a b zero e = inl e
  at_push (x ∷ xs) a b (suc j) e = ⊎_elim (λ h. inl h) (λ h. inr ((let q = h.0 in omega arith), h.1)) (at_push xs a b j e)

  pub at_below : (l : List A) (j : ℕ) (a : A) → get_elem? l j ≡ some a → j < length l
  at_below [] j a e = absurd (some-ne-none a (sym e))
  at_below (x ∷ xs) zero a e = omega arith
  at_below (x ∷ xs) (suc j) a e = let h = at_below xs j a e in omega arith

  pub at_there : (l : List A) (j : ℕ) → j < length l → (a : A) × (get_elem? l j ≡ some a)
  at_there [] j h = absurd (omega arith)
  at_there (x ∷ xs) zero h = (x, refl)
  at_there (x ∷ xs) (suc j) h = at_there xs j (omega arith)

  pub one_at : (l : List A) (j : ℕ) (a b : A) → get_elem? l j ≡ some a → get_elem? l j ≡ some b → a ≡ b
  one_at l j a b e f = some-injective a b (sym e ∙ f)

  -- the rest of a list that begins with some element
  pub at_rest : (l : List A) (a : A) → get_elem? l 0 ≡ some a → (rest : List A) × (l ≡ a ∷ rest)
  at_rest [] a e = absurd (some-ne-none a (sym e))
  at_rest (x ∷ xs) a e = (xs, λ i. some-injective x a e i ∷ xs)

  -- what holds of each element still does once one of them is changed
  pub each_set : (F : ℕ → A → Type 0) (l : List A) (i : ℕ) (w : A) → F i w → ((j : ℕ) (v : A) → j ≢ i → get_elem? l j ≡ some v → F j v) → (j : ℕ) (v : A)
      → get_elem? (set l i w) j ≡ some v → F j v
  each_set F l i w here there j v e = ⊎_elim
      (λ (h : (j ≡ i) × (w ≡ v)). subst (λ (k : ℕ). F k v) (sym h.0) (subst (F i) h.1 here))
      (λ (h : (j ≢ i) × (get_elem? l j ≡ some v)). there j v h.0 h.1) (at_set l i j w v e)

  module _ (f : A → ℕ) where
    pub total_set : (l : List A) (i : ℕ) (v w : A) → get_elem? l i ≡ some v → total f (set l i w) + f v ≡ total f l + f w
    total_set [] i v w e = absurd (some-ne-none v (sym e))
    total_set (x ∷ xs) zero v w e = let h : f x ≡ f v = ap f (some-injective x v e) in omega arith
    total_set (x ∷ xs) (suc i) v w e = let h = total_set xs i v w e in omega arith

    -- a change that weighs the same
    pub same_total : (l : List A) (i : ℕ) (v w : A) → get_elem? l i ≡ some v → f w ≡ f v → total f (set l i w) ≡ total f l
    same_total l i v w e h = let t = total_set l i v w e in omega arith

    pub total_push : (l : List A) (a : A) → total f (l ++ a ∷ []) ≡ total f l + f a
    total_push [] a = omega arith
    total_push (x ∷ xs) a = let h = total_push xs a in omega arith

    pub total_at : (l : List A) (i : ℕ) (v : A) → get_elem? l i ≡ some v → f v ≤ total f l
    total_at [] i v e = absurd (some-ne-none v (sym e))
    total_at (x ∷ xs) zero v e = let h : f x ≡ f v = ap f (some-injective x v e) in omega arith
    total_at (x ∷ xs) (suc i) v e = let h = total_at xs i v e in omega arith

    -- two places weigh no more than the whole
    pub total_two : (l : List A) (i j : ℕ) (v w : A) → i ≢ j → get_elem? l i ≡ some v → get_elem? l j ≡ some w → f v + f w ≤ total f l
    total_two [] i j v w n e g = absurd (some-ne-none v (sym e))
    total_two (x ∷ xs) zero zero v w n e g = absurd (n refl)
    total_two (x ∷ xs) zero (suc j) v w n e g = let h : f x ≡ f v = ap f (some-injective x v e) in let t = total_at xs j w g in omega arith
    total_two (x ∷ xs) (suc i) zero v w n e g = let h : f x ≡ f w = ap f (some-injective x w g) in let t = total_at xs i v e in omega arith
    total_two (x ∷ xs) (suc i) (suc j) v w n e g = let t = total_two xs i j v w (λ q. n (ap suc q)) e g in omega arith

    -- a sum above 0 has an element above 0
    pub total_some : (l : List A) → 0 < total f l → (i : ℕ) × (v : A) × (get_elem? l i ≡ some v) × (0 < f v)
    total_some [] h = absurd (omega arith)
    total_some (x ∷ xs) h = dite (ℕ_discrete (f x) 0)
        (λ z. let t = total_some xs (omega arith) in (suc t.0, t.1, t.2, t.3))
        (λ z. (0, x, refl, omega arith))

    total_none : (l : List A) → ((i : ℕ) (a : A) → get_elem? l i ≡ some a → f a ≡ 0) → total f l ≡ 0
    total_none [] h = refl
    total_none (x ∷ xs) h = let z = h 0 x refl in let t = total_none xs (λ i a e. h (suc i) a e) in omega arith

    -- one element counts 1, and no other counts
    pub total_one : (l : List A) (j : ℕ) (v : A) → get_elem? l j ≡ some v → f v ≡ 1 → ((i : ℕ) (a : A) → get_elem? l i ≡ some a → i ≢ j → f a ≡ 0)
        → total f l ≡ 1
    total_one [] j v e one h = absurd (some-ne-none v (sym e))
    total_one (x ∷ xs) zero v e one h = let q : f x ≡ f v = ap f (some-injective x v e) in
        let t = total_none xs (λ i a at. h (suc i) a at (λ z. omega arith)) in omega arith
    total_one (x ∷ xs) (suc j) v e one h = let z = h 0 x refl (λ q. omega arith) in
        let t = total_one xs j v e one (λ i a at n. h (suc i) a at (λ q. n (omega arith))) in omega arith

  pub total_le : (f g : A → ℕ) → ((a : A) → f a ≤ g a) → (l : List A) → total f l ≤ total g l
  total_le f g h [] = omega arith
  total_le f g h (x ∷ xs) = let t = total_le f g h xs in let u = h x in omega arith

pub times_both : (x : ℕ) (xs ys : List ℕ) → times x (xs ++ ys) ≡ times x xs + times x ys
times_both x [] ys = omega arith
times_both x (y ∷ xs) ys = let h = times_both x xs ys in omega arith

pub times_here : (x : ℕ) → times x (x ∷ []) ≡ 1
times_here x = subst (λ (b : Bool). cond b 1 0 + 0 ≡ 1) (sym (eq-eqb x x refl)) refl

pub times_else : (x a : ℕ) → x ≢ a → times x (a ∷ []) ≡ 0
times_else x a n = subst (λ (b : Bool). cond b 1 0 + 0 ≡ 0) (sym (ne_eqb a x (λ e. n (sym e)))) refl

-- a number that was added stands there, or it did before
pub in_added : (x a : ℕ) (xs : List ℕ) → In x (xs ++ a ∷ []) → In x xs ⊎ (x ≡ a)
in_added x a xs h = dite (ℕ_discrete x a) (λ e. inr e) (λ n. inl (let t = times_both x xs (a ∷ []) in let z = times_else x a n in omega arith))

pub in_longer : (x : ℕ) (xs : List ℕ) (a : ℕ) → In x xs → In x (xs ++ a ∷ [])
in_longer x xs a h = let t = times_both x xs (a ∷ []) in omega arith

pub in_last : (a : ℕ) (xs : List ℕ) → In a (xs ++ a ∷ [])
in_last a xs = let t = times_both a xs (a ∷ []) in let o = times_here a in omega arith

-- writing what stands there changes nothing
pub set_self : (l : List ℕ) (i : ℕ) → set l i (get_or l i 0) ≡ l
set_self [] i = refl
set_self (x ∷ xs) zero = refl
set_self (x ∷ xs) (suc i) = ap (λ (l : List ℕ). x ∷ l) (set_self xs i)
