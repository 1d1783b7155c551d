-- How many connections but the first are there still, as entries follow.
use Rattle.std.proofs.Common.{◌≡◌, ℕ, ◌+◌, ◌-◌, ◌^◌, ◌<◌, ◌≤◌, zero, suc, min, Bool, true, false, not, ◌&&◌, ◌||◌, ◌==◌, if◌then◌else◌, List, ◌∷◌, refl, sym, ap, ap₂, ◌∙◌, arith}
use Rattle.std.proofs.lemmas.Bool.{eqb-true, eqb-false, cond_both, eq-eqb, ne_eqb}
use Rattle.poa_base.specs.declared.Entry.{Entry}
use Rattle.poa_base.specs.declared.Entry.TheVariants.{Entered, Left}
use Rattle.history_standing.specs.Arrivals.{connections}
use Rattle.poa_history.specs.Legal.{has_left}
use Rattle.history_standing.specs.Searches.{count_below}
use Rattle.poa_history.specs.Leaving.{is_staying, staying}

-- at most all pass
pub count_few : (p : ℕ → Bool) (n : ℕ) → count_below p n ≤ n
count_few p zero = omega arith
count_few p (suc n) =
    (let before = count_few p n in cond_both (p n) 1 0 (λ x. count_below p n + x ≤ suc n) (λ _. omega (arith, before)) (λ _. omega (arith, before)))

pub count_same : (p q : ℕ → Bool) (n : ℕ) → ((k : ℕ) → k < n → p k ≡ q k) → count_below p n ≡ count_below q n
count_same p q zero same = refl
count_same p q (suc n) same = ap₂ (λ x b. x + (if b then 1 else 0)) (count_same p q n (λ k below. same k (omega (arith, below)))) (same n (omega arith))

-- one of them doesn't pass any more
pub count_less : (p q : ℕ → Bool) (x n : ℕ) → x < n → p x ≡ true → q x ≡ false → ((k : ℕ) → (x == k) ≡ false → p k ≡ q k)
    → count_below p n ≡ count_below q n + 1
count_less p q x zero below was isn't same = absurd (omega (arith, below))
count_less p q x (suc n) below was isn't same =
    elim (x == n) as (λ b. (x == n) ≡ b → count_below p (suc n) ≡ count_below q (suc n) + 1) [
      | true ↦ (λ at. (let here : x ≡ n = eqb-true x n at in
          let others : count_below p n ≡ count_below q n =
          count_same p q n (λ k low. same k (ne_eqb x k (λ is. (let e : x ≡ k = is in absurd (omega (arith, low, here, e)))))) in
          ap (λ b. count_below p n + (if b then 1 else 0)) (ap p (sym here) ∙ was)
          ∙ ap (λ m. m + 1) others
          ∙ sym (ap (λ b. count_below q n + (if b then 1 else 0) + 1) (ap q (sym here) ∙ isn't) ∙ sum_zero (count_below q n))))
      | false ↦ (λ other. (let low : x < n = lower x n below (eqb-false x n other) in
          let before : count_below p n ≡ count_below q n + 1 = count_less p q x n low was isn't same in
          ap₂ (λ m b. m + (if b then 1 else 0)) before (same n other) ∙ swapped (count_below q n) (if q n then 1 else 0)))
    ] refl
  where
    sum_zero : (m : ℕ) → m + 0 + 1 ≡ m + 1
    sum_zero m = omega arith

    swapped : (m d : ℕ) → m + 1 + d ≡ m + d + 1
    swapped m d = omega arith

    lower : (x n : ℕ) → x < suc n → (x ≡ n → ⊥) → x < n
    lower x n below ne = omega (arith, below, ne)

-- at most one passes more than before, where all others are as they were
pub count_near : (p q : ℕ → Bool) (x n : ℕ) → ((k : ℕ) → (x == k) ≡ false → p k ≡ q k) → count_below p n ≤ count_below q n + 1
count_near p q x zero same = omega arith
count_near p q x (suc n) same =
    elim (x == n) as (λ b. (x == n) ≡ b → count_below p (suc n) ≤ count_below q (suc n) + 1) [
      | true ↦ (λ at. (let here : x ≡ n = eqb-true x n at in
          let others : count_below p n ≡ count_below q n =
          count_same p q n (λ k low. same k (ne_eqb x k (λ is. (let e : x ≡ k = is in absurd (omega (arith, low, here, e)))))) in
          cond_both (p n) 1 0 (λ x. count_below p n + x ≤ count_below q n + (if q n then 1 else 0) + 1) (λ _. more_one _ _ _ others)
          (λ _. more_none _ _ _ others)))
      | false ↦ (λ other. (let before : count_below p n ≤ count_below q n + 1 = count_near p q x n same in
          ap_le (count_below p n) (count_below q n) (if p n then 1 else 0) (if q n then 1 else 0) before (ap (λ b. if b then 1 else 0) (same n other))))
    ] refl
  where
    more_one : (a b d : ℕ) → a ≡ b → a + 1 ≤ b + d + 1
    more_one a b d is = omega (arith, is)

    more_none : (a b d : ℕ) → a ≡ b → a + 0 ≤ b + d + 1
    more_none a b d is = omega (arith, is)

    ap_le : (a b c d : ℕ) → a ≤ b + 1 → c ≡ d → a + c ≤ b + d + 1
    ap_le a b c d less is = omega (arith, less, is)

-- one more enters, and it hasn't left
pub staying_more : (past : List Entry) (conn s : ℕ) → conn ≡ connections past → conn < 4000000 → has_left past conn ≡ false
    → s ≡ staying past (connections past)
    → (if conn == 0 then s else min (s + 1) (2 ^ 64 - 1)) ≡ staying (Entered conn ∷ past) (connections (Entered conn ∷ past))
staying_more past conn s next few there is =
    let n = connections past in
    let low : count_below (is_staying past) n ≤ n = count_few (is_staying past) n in
    let here : is_staying past n ≡ (not (conn == 0) && true) = ap₂ (λ x b. not (x == 0) && not b) (sym next) (ap (has_left past) (sym next) ∙ there) in
    elim (conn == 0) as (λ b. (if b then s else min (s + 1) (2 ^ 64 - 1)) ≡ count_below (is_staying past) n + (if (not b && true) then 1 else 0)) [
      | true ↦ (let i : s ≡ count_below (is_staying past) n = is in omega (arith, i))
      | false ↦ (let i : s ≡ count_below (is_staying past) n = is in grind (arith, i, low, next, few))
    ]
    ∙ ap (λ b. count_below (is_staying past) n + (if b then 1 else 0)) (sym here)

-- one leaves that was there
pub staying_less : (past : List Entry) (conn s : ℕ) → conn < connections past → has_left past conn ≡ false → s ≡ staying past (connections past)
    → (if conn == 0 then s else s - 1) ≡ staying (Left conn ∷ past) (connections (Left conn ∷ past))
staying_less past conn s below there is =
    elim (conn == 0) as (λ b. (conn == 0) ≡ b → (if b then s else s - 1) ≡ count_below (is_staying (Left conn ∷ past)) (connections past)) [
      | true ↦ (λ first. is ∙ count_same (is_staying past) (is_staying (Left conn ∷ past)) (connections past) (λ k _. first_same k (eqb-true conn 0 first)))
      | false ↦ (λ other. (let less : count_below (is_staying past) (connections past) ≡ count_below (is_staying (Left conn ∷ past)) (connections past) + 1 =
          count_less (is_staying past) (is_staying (Left conn ∷ past)) conn (connections past) below
          (ap₂ (λ a b. not a && not b) other there)
          (ap₂ (λ a b. not a && not (b || has_left past conn)) other (eq-eqb conn conn refl))
          (λ k else_. ap (λ b. not (k == 0) && not (b || has_left past k)) (sym else_)) in
          let i : s ≡ count_below (is_staying past) (connections past) = is in omega (arith, i, less)))
    ] refl
  where
    first_same : (k : ℕ) → conn ≡ 0 → is_staying past k ≡ is_staying (Left conn ∷ past) k
    first_same k first =
        elim (k == 0) as (λ b. (k == 0) ≡ b → (not b && not (has_left past k)) ≡ (not b && not ((conn == k) || has_left past k))) [
          | true ↦ (λ _. refl)
          | false ↦ (λ other. ap (λ b. not (b || has_left past k)) (sym (ne_eqb conn k (λ same. eqb-false k 0 other (sym same ∙ first)))))
        ] refl
