-- The text before the last `/`, by the place of that `/`.
use Rattle.std.proofs.Common.{◌≡◌, ◌≢◌, ℕ, suc, zero, ◌<◌, ◌==◌, true, false, List, [], ◌∷◌, length, take, get_or, refl, ap, arith, eq-eqb, eqb, eqb-true, inl, inr}
use Rattle.std.proofs.lemmas.Bool.{cases_Bool}
use Rattle.std.proofs.Math.Bool.{or-true}
use Rattle.std.specs.List.{list_any}
use Rattle.conf_toml.specs.Adapters.{parent_text}

slash_at : (cs : List ℕ) (k : ℕ) → k < length cs → get_or cs k 0 ≡ 47 → list_any (λ b. b == 47) cs ≡ true
slash_at [] k lt here = absurd (omega arith)
slash_at (c ∷ cs) zero lt here = rw (eq-eqb c 47 here)
slash_at (c ∷ cs) (suc k) lt here = rw (slash_at cs k (omega arith) here) (or-true (c == 47))

no_slash : (cs : List ℕ) → ((i : ℕ) → i < length cs → get_or cs i 0 ≢ 47) → list_any (λ b. b == 47) cs ≡ false
no_slash [] none = refl
no_slash (c ∷ cs) none =
    elim (cases_Bool (eqb c 47)) [
      | inl here ↦ absurd (none 0 (omega arith) (eqb-true c 47 here))
      | inr other ↦ rw (other, no_slash cs (λ i lt. none (suc i) (omega arith)))
    ]

pub parent_at : (bs : List ℕ) (k : ℕ) → k < length bs → get_or bs k 0 ≡ 47 → ((i : ℕ) → k < i → i < length bs → get_or bs i 0 ≢ 47) → parent_text bs ≡ take k bs
unfolding parent_text
parent_at [] k lt here last = absurd (omega arith)
parent_at (c ∷ cs) zero lt here last = rw (no_slash cs (λ i below. last (suc i) (omega arith) (omega arith)))
parent_at (c ∷ cs) (suc k) lt here last =
    rw (slash_at cs k (omega arith) here) (ap (λ t. c ∷ t) (parent_at cs k (omega arith) here (λ i above below. last (suc i) (omega arith) (omega arith))))

pub no_parent : (bs : List ℕ) → ((i : ℕ) → i < length bs → get_or bs i 0 ≢ 47) → parent_text bs ≡ []
unfolding parent_text
no_parent [] none = refl
no_parent (c ∷ cs) none = rw (no_slash cs (λ i lt. none (suc i) (omega arith)))
