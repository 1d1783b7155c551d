-- What is decided: the words, and how the parts of a whole are decided one behind the other.
use Rattle.std.proofs.Common.{◌≡◌, ℕ, ◌+◌, ◌<◌, ◌≤◌, Bool, true, false, ltb, refl, subst, arith, inl, inr, ◌⊎◌}
use Rattle.std.proofs.lemmas.Bool.Decides.{Decides-eqb, Decides-ltb, not_from_Decides}
use Rattle.std.specs.Bool.{Decides}
use Rattle.std.specs.Prelude.{◌==◌}
use Rattle.cdr_core.specs.Cursor.{Cursor}

abbrev pub Decided : Type 0 → Type 0
Decided P = P ⊎ (P → ⊥)

pub decided_as : (P Q : Type 0) → (P → Q) → (Q → P) → Decided P → Decided Q
decided_as P Q there back (inl p) = inl (there p)
decided_as P Q there back (inr none) = inr (λ q. none (back q))

pub decided_by : (P : Type 0) (r : Bool) → Decides r P → Decided P
decided_by P true told = inl (told.0 refl)
decided_by P false told = inr (not_from_Decides false told refl)

pub at_most_decided : (m n : ℕ) → Decided (m ≤ n)
at_most_decided m n =
    decided_as (m < n + 1) (m ≤ n) (λ h. omega (arith, h)) (λ h. omega (arith, h)) (decided_by (m < n + 1) (ltb m (n + 1)) (Decides-ltb m (n + 1)))

pub is_decided : (m n : ℕ) → Decided (m ≡ n)
is_decided m n = decided_by (m ≡ n) (m == n) (Decides-eqb m n)

pub decided_both : (P Q : Type 0) → Decided P → Decided Q → Decided (P × Q)
decided_both P Q (inl p) (inl q) = inl (p, q)
decided_both P Q (inl p) (inr none) = inr (λ b. none b.1)
decided_both P Q (inr none) q = inr (λ b. none b.0)

-- something that is read in this way stands at the cursor
abbrev pub Stands : (V : Type 0) → (V → Cursor → Cursor → Type 0) → Cursor → Type 0
Stands V Reading c = (v : V) × (after : Cursor) × Reading v c after

-- and this follows it
abbrev pub StandsThen : (V : Type 0) → (V → Cursor → Cursor → Type 0) → (V → Cursor → Type 0) → Cursor → Type 0
StandsThen V Reading Next c = (v : V) × (after : Cursor) × Reading v c after × Next v after

-- one thing alone is read in this way at the cursor
abbrev pub IsReadOnce : (V : Type 0) → (V → Cursor → Cursor → Type 0) → Cursor → Type 0
IsReadOnce V Reading c = (v w : V) (a b : Cursor) → Reading v c a → Reading w c b → (v ≡ w) × (a ≡ b)

next_decided : (V : Type 0) (Reading : V → Cursor → Cursor → Type 0) (Next : V → Cursor → Type 0) (c : Cursor) → IsReadOnce V Reading c
    → (v : V) (after : Cursor) → Reading v c after → Decided (Next v after) → Decided (StandsThen V Reading Next c)
next_decided V Reading Next c once v after read (inl next) = inl (v, after, read, next)
next_decided V Reading Next c once v after read (inr none) =
    inr (λ s. let same = once s.0 v s.1 after s.2 read in
    none (subst (λ (x : V). Next x after) same.0 (subst (λ (a : Cursor). Next s.0 a) same.1 s.3)))

-- the parts of a whole are decided one behind the other
pub decided_then : (V : Type 0) (Reading : V → Cursor → Cursor → Type 0) (Next : V → Cursor → Type 0) (c : Cursor) → IsReadOnce V Reading c
    → ((v : V) (after : Cursor) → Decided (Next v after)) → Decided (Stands V Reading c) → Decided (StandsThen V Reading Next c)
decided_then V Reading Next c once next (inl s) = next_decided V Reading Next c once s.0 s.1 s.2 (next s.0 s.1)
decided_then V Reading Next c once next (inr none) = inr (λ s. none (s.0, s.1, s.2))
