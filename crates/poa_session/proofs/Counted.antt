-- Counts of faults that rose.
use Rattle.std.proofs.Common.{ℕ, ◌<◌, ◌≤◌, inl, inr, ⊎_elim, arith}
use Rattle.std.proofs.lemmas.Bool.{cases_lt}
use Rattle.outside.specs.Cause.{Rose}

pub rose_before : (a b z : ℕ) → a ≤ b → Rose b z → Rose a z
rose_before a b z less (inl rose) = inl (omega (arith, less, rose))
rose_before a b z less (inr full) = inr full

pub rose_after : (a b z : ℕ) → a ≤ b → Rose a b → b ≤ z → Rose a z
rose_after a b z first (inl rose) less = inl (omega (arith, less, rose))
rose_after a b z first (inr full) less =
    ⊎_elim (λ (more : b < z). inl (omega (arith, first, more))) (λ (most : z ≤ b). inr (omega (arith, full, less, most))) (cases_lt b z)
