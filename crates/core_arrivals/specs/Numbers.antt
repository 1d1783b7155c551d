-- Lists of numbers in order: with one more, without one, and the first value that they give.
use Rattle.std.specs.Prelude.{ℕ, not, nat_lt, ◌==◌, List, [], ◌∷◌, length, filter, Option, None}
use Rattle.std.specs.List.{insert}
use Rattle.std.specs.Option.{option_or}

-- with a number more, behind all that are less
abbrev pub inserted : ℕ → List ℕ → List ℕ
inserted r xs = insert xs (length (filter (λ x. nat_lt x r) xs)) r

-- without a number
abbrev pub without : ℕ → List ℕ → List ℕ
without r xs = filter (λ x. not (x == r)) xs

-- the first value that the numbers of a list give
abbrev pub first_in : {A : Type 0} → (ℕ → Option A) → List ℕ → Option A
first_in give [] = None
first_in give (x ∷ xs) = option_or (give x) (first_in give xs)
