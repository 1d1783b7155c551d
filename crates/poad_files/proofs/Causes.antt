-- Counts of faults over several calls.
use Rattle.std.proofs.Common.{ℕ, ◌≤◌, inl, inr, arith}
use Rattle.outside.specs.Cause.{Rose, HasCause}

-- an answer that isn't given needs no cause
pub cause_still : (a b : ℕ) (Answer : Type 0) → a ≤ b → (Answer → ⊥) → HasCause a b Answer
cause_still a b Answer later never = record { later = later; rose = λ answer. absurd (never answer) }

rose_from : (a b c : ℕ) → a ≤ b → Rose b c → Rose a c
rose_from a b c later (inl more) = inl (omega arith)
rose_from a b c later (inr full) = inr full

-- the cause of the last call is one of them all
pub cause_from : (a b c : ℕ) (Last Answer : Type 0) → a ≤ b → HasCause b c Last → (Answer → Last) → HasCause a c Answer
cause_from a b c Last Answer later cause so = record {
  later = let more : b ≤ c = cause.later in omega arith;
  rose = λ answer. rose_from a b c later (cause.rose (so answer));
}
