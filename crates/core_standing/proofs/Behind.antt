-- What is asked of all activations that were begun is asked of those that are kept.
use Rattle.std.specs.Prelude.{◌≡◌, ℕ, ◌+◌, zero, suc, Bool, true, false, ◌||◌, ◌&&◌, List, [], ◌∷◌, ◌++◌, map, length, find, Some, cond, refl}
use Rattle.std.specs.List.{list_any, list_all}
use Rattle.std.proofs.Common.{sym, ap, ap₂, ◌∙◌, arith}
use Rattle.history_standing.specs.declared.activation.Activation.{Activation}
use Rattle.core_standing.specs.Seen.{forgotten, behind}

-- a test of joined tests fails where one of them does
pub first_fails : (x y : Bool) → x ≡ false → (x && y) ≡ false
first_fails false y is = refl
first_fails true y is = absurd (let e : true ≡ false = is in cc)

pub second_fails : (x y : Bool) → y ≡ false → (x && y) ≡ false
second_fails true y is = is
second_fails false y is = refl

pub any_behind : (test : Activation → Bool) → test forgotten ≡ false → (n : ℕ) (kept : List Activation) → list_any test (behind n kept) ≡ list_any test kept
any_behind test none zero kept = refl
any_behind test none (suc n) kept = ap (λ b. b || list_any test (behind n kept)) none ∙ any_behind test none n kept

pub all_behind : (test : Activation → Bool) → test forgotten ≡ true → (n : ℕ) (kept : List Activation) → list_all test (behind n kept) ≡ list_all test kept
all_behind test passes zero kept = refl
all_behind test passes (suc n) kept = ap (λ b. b && list_all test (behind n kept)) passes ∙ all_behind test passes n kept

pub find_behind : (test : Activation → Bool) → test forgotten ≡ false → (n : ℕ) (kept : List Activation) → find test (behind n kept) ≡ find test kept
find_behind test none zero kept = refl
find_behind test none (suc n) kept = ap (λ b. cond b (Some forgotten) (find test (behind n kept))) none ∙ find_behind test none n kept

pub map_behind : (f : Activation → Activation) → f forgotten ≡ forgotten → (n : ℕ) (kept : List Activation) → behind n (map f kept) ≡ map f (behind n kept)
map_behind f same zero kept = refl
map_behind f same (suc n) kept = ap₂ (λ a as'. a ∷ as') (sym same) (map_behind f same n kept)

pub length_behind : (n : ℕ) (kept : List Activation) → n + length kept ≡ length (behind n kept)
length_behind zero kept = (let long : 0 + length kept ≡ length kept = omega arith in long)
length_behind (suc n) kept = (let rest = length_behind n kept in let long : suc n + length kept ≡ suc (length (behind n kept)) = omega (arith, rest) in long)

pub push_behind : (n : ℕ) (kept : List Activation) (a : Activation) → behind n (kept ++ a ∷ []) ≡ behind n kept ++ a ∷ []
push_behind zero kept a = refl
push_behind (suc n) kept a = ap (λ as'. forgotten ∷ as') (push_behind n kept a)

pub pushed_behind : (n : ℕ) (kept : List Activation) (a b : Activation) → a ≡ b → behind n (kept ++ a ∷ []) ≡ behind n kept ++ b ∷ []
pushed_behind n kept a b same = push_behind n kept a ∙ ap (λ x. behind n kept ++ x ∷ []) same
