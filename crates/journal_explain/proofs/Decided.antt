-- What came of one call is changed.
use Rattle.std.proofs.Common.{◌≡◌, ℕ, zero, suc, ◌<◌, ◌≤◌, ◌↔◌, List, [], ◌∷◌, length, slice_index_or, slice_set, Option, Some, None, IsSome, refl, ap, arith}
use Rattle.std.proofs.lemmas.Bool.{false≢true}
use Rattle.journal_explain.specs.declared.came.Came.{Came}
use Rattle.journal_explain.specs.declared.outcome.Outcome.{Outcome}
use Rattle.journal_explain.specs.Outcomes.{decided}

pub decided_set : (calls : List Came) (i : ℕ) (outcome : Outcome) (d : Came) → i < length calls
    → slice_set calls i (record (slice_index_or calls i d) { outcome = outcome }) ≡ decided i outcome calls
decided_set [] i outcome d low = absurd (omega (arith, low))
decided_set (call ∷ calls) zero outcome d low = refl
decided_set (call ∷ calls) (suc i) outcome d low = ap (λ (cs : List Came). call ∷ cs) (decided_set calls i outcome d (omega (arith, low)))

pub decided_past : (calls : List Came) (i : ℕ) (outcome : Outcome) → length calls ≤ i → calls ≡ decided i outcome calls
decided_past [] i outcome high = refl
decided_past (call ∷ calls) zero outcome high = absurd (omega (arith, high))
decided_past (call ∷ calls) (suc i) outcome high = ap (λ (cs : List Came). call ∷ cs) (decided_past calls i outcome (omega (arith, high)))

-- what is so where a value comes, and isn't where none does
pub not_there : {X P : Type 0} (o : Option X) → (IsSome o ↔ P) → o ≡ None → P → ⊥
not_there None h is p = false≢true (h.1 p)
not_there (Some x) h is p = cc

pub is_there : {X P : Type 0} (o : Option X) (x : X) → (IsSome o ↔ P) → o ≡ Some x → P
is_there None x h is = cc
is_there (Some y) x h is = h.0 refl
