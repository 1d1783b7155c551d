-- Sums over lists, and numbers that stand in one.
use Rattle.std.proofs.Common.{◌≡◌, ℕ, zero, suc, ◌+◌, ◌<◌, ◌≤◌, Bool, ◌==◌, cond, List, [], ◌∷◌, ◌++◌, length, refl, sym, ap, ◌∙◌, subst, arith, ne_eqb}
use Rattle.std.proofs.lemmas.Bool.{cond_both}
use mathlib.Core.Logic.{dite}
use native.Mathlib.Decide.{ℕ_discrete}
use Rattle.seat_lock.proofs.Totals.{total_le}
use Rattle.seat_lock.specs.Histories.{In, times, total}

pub total_both : {A : Type 0} (f : A → ℕ) (xs ys : List A) → total f (xs ++ ys) ≡ total f xs + total f ys
total_both f [] ys = omega arith
total_both f (x ∷ xs) ys = let rest = total_both f xs ys in omega (arith, rest)

pub counted : {A : Type 0} (xs : List A) → total (λ (x : A). 1) xs ≡ length xs
counted [] = refl
counted (x ∷ xs) = let rest = counted xs in omega (arith, rest)

-- where one number stands in the list, what it weighs more the sum does too
module _ (f g : ℕ → ℕ) (least : (k : ℕ) → f k ≤ g k) (c more : ℕ) (heavier : f c + more ≤ g c) where
  total_one_more : (k : ℕ) (ks : List ℕ) → k ≡ c → total f (k ∷ ks) + more ≤ total g (k ∷ ks)
  total_one_more k ks here =
      let rest = total_le f g least ks in
      let one : f k + more ≤ g k = subst (λ (n : ℕ). f n + more ≤ g n) (sym here) heavier in omega (arith, rest, one)

  pub total_more : (ks : List ℕ) → In c ks → total f ks + more ≤ total g ks
  total_more [] there = absurd (omega (arith, there))
  total_more (k ∷ ks) there =
      dite (ℕ_discrete k c)
      (λ (here : k ≡ c). total_one_more k ks here)
      (λ (other : k ≡ c → ⊥).
      (let none : times c (k ∷ ks) ≡ times c ks = subst (λ (b : Bool). cond b 1 0 + times c ks ≡ times c ks) (sym (ne_eqb k c other)) (omega arith) in
      let rest = total_more ks (omega (arith, there, none)) in
      let one = least k in omega (arith, rest, one)))

-- a list without one number that stands in it
pub record Without (c : ℕ) (ks : List ℕ) : Type 0 where
  pub others : List ℕ
  pub counted : length ks ≡ suc (length others)
  pub still : (d : ℕ) → (d ≡ c → ⊥) → In d ks → In d others

pub without : (c : ℕ) (ks : List ℕ) → In c ks → Without c ks
without c [] there = absurd (omega (arith, there))
without c (k ∷ ks) there =
    dite (ℕ_discrete k c)
    (λ (here : k ≡ c). record {
      others = ks;
      counted = refl;
      still = λ d other in_. (let none : times d (k ∷ ks) ≡ times d ks =
          subst (λ (b : Bool). cond b 1 0 + times d ks ≡ times d ks) (sym (ne_eqb k d (λ (e : k ≡ d). other (sym e ∙ here)))) (omega arith) in
          omega (arith, in_, none));
    })
    (λ (other : k ≡ c → ⊥).
    (let none : times c (k ∷ ks) ≡ times c ks = subst (λ (b : Bool). cond b 1 0 + times c ks ≡ times c ks) (sym (ne_eqb k c other)) (omega arith) in
    let rest = without c ks (omega (arith, there, none)) in
    record {
      others = k ∷ rest.others;
      counted = ap suc rest.counted;
      still = λ d apart in_.
          cond_both (k == d) 1 0 (λ (n : ℕ). 0 < n + times d ks → 0 < n + times d rest.others)
          (λ _ _. omega arith) (λ _ more. (let s = rest.still d apart (omega (arith, more)) in omega (arith, s))) in_;
    }))

-- a list in which each number below a bound stands, but 0, is as long as there are such numbers
pub holds_as_many : (n : ℕ) (ks : List ℕ) → ((c : ℕ) → 0 < c → c < n → In c ks) → n ≤ suc (length ks)
holds_as_many zero ks each = omega arith
holds_as_many (suc zero) ks each = omega arith
holds_as_many (suc (suc n)) ks each =
    let rest = without (suc n) ks (each (suc n) (omega arith) (omega arith)) in
    let fewer = holds_as_many (suc n) rest.others
    (λ c above below. rest.still c (λ (e : c ≡ suc n). omega (arith, below, e)) (each c above (omega (arith, below)))) in
    let one = rest.counted in omega (arith, fewer, one)
