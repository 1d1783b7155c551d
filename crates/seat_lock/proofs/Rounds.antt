-- Numbers that go round at m.
use Rattle.std.proofs.Common.{◌≡◌, ℕ, suc, ◌+◌, ◌%◌, ◌<◌, ◌≤◌, sym, ap, ◌∙◌, mod-eq_of_lt, lt_of_not-le, arith}
use mathlib.Core.Logic.{dite}
use native.Mathlib.Decide.{dec_le}
use Rattle.std.proofs.Math.Nat.{mod-add-mod}
use Rattle.atomic_table.proofs.Lists.{one_turn}

pub round_more : (a d m : ℕ) → ((a + d) % m + 1) % m ≡ (a + (d + 1)) % m
round_more a d m = mod-add-mod (a + d) m 1 ∙ ap (λ (n : ℕ). n % m) (omega arith)

pub round_next : (a k m : ℕ) → ((a + 1) % m + k) % m ≡ (a + suc k) % m
round_next a k m = mod-add-mod (a + 1) m k ∙ ap (λ (n : ℕ). n % m) (omega arith)

-- two distances below m that end at one number are one distance
round_one : (a j k m : ℕ) → j < m → k < m → j ≤ k → (a + j) % m ≡ (a + k) % m → j ≡ k
round_one a j k m hj hk le e = let h : a + j ≡ a + k = one_turn (a + j) (a + k) m (omega arith) (omega arith) e in omega arith

pub round_same : (a j k m : ℕ) → j < m → k < m → (a + j) % m ≡ (a + k) % m → j ≡ k
round_same a j k m hj hk e =
    dite (dec_le j k) (λ le. round_one a j k m hj hk le e) (λ n. sym (round_one a k j m hk hj (let l = lt_of_not-le n in omega arith) (sym e)))

-- a distance below m that ends where it began is none
pub round_first : (a k m : ℕ) → a < m → k < m → (a + k) % m ≡ a → k ≡ 0
round_first a k m ha hk e = sym (round_one a 0 k m (omega arith) hk (omega arith) (ap (λ (n : ℕ). n % m) (omega arith) ∙ (mod-eq_of_lt ha ∙ sym e)))
