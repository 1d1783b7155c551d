-- The numbers below a bound, and numbers in order.
use Rattle.std.specs.Prelude.{ℕ, zero, suc, ◌<◌, List, [], ◌∷◌, ◌++◌}
use Rattle.history_standing.specs.Trees.{In}

-- the numbers below the bound
abbrev pub below : ℕ → List ℕ
below zero = []
below (suc k) = below k ++ k ∷ []

-- each number is less than all after it, so none stands twice
abbrev pub Ascends : List ℕ → Type 0
Ascends [] = Unit {0}
Ascends (x ∷ xs) = ((y : ℕ) → In y xs → x < y) × Ascends xs
