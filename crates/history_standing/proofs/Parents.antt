-- All names but the last, as a slice gives them.
use Rattle.std.proofs.Common.{◌≡◌, ◌-◌, ℕ, List, [], ◌∷◌, length, take, refl, ap}
use Rattle.history_standing.specs.Paths.{parent_path}
use native.Mathlib.Numerals.{unary_clauses}

pub parent_taken : (p : List (List ℕ)) → take (length p - 1) p ≡ parent_path p
parent_taken [] = refl
parent_taken (x ∷ []) = refl
parent_taken (x ∷ y ∷ p) =
    let more : (x ∷ take (length (y ∷ p) - 1) (y ∷ p)) ≡ (x ∷ parent_path (y ∷ p)) = ap (λ q. x ∷ q) (parent_taken (y ∷ p)) in
    simp unary_clauses (simp unary_clauses at more)
