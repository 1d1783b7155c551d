-- The padding in front of a body.
use Rattle.std.proofs.Common.{◌≡◌, ◌⊎◌, inl, inr, ℕ, ◌≤◌, sym, subst, arith}
use Rattle.cdr_core.specs.Spelling.{gap}

one_few : (place : ℕ) → gap 1 place ≤ 8
one_few place = omega arith

eight_few : (place : ℕ) → gap 8 place ≤ 8
eight_few place = omega arith

pub gap_few : (unit place : ℕ) → (unit ≡ 1) ⊎ (unit ≡ 8) → gap unit place ≤ 8
gap_few unit place (inl one) = subst (λ (n : ℕ). gap n place ≤ 8) (sym one) (one_few place)
gap_few unit place (inr eight) = subst (λ (n : ℕ). gap n place ≤ 8) (sym eight) (eight_few place)
