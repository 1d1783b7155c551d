-- A value that was found, in front of the others of its name.
use Rattle.std.proofs.Common.{ℕ, List, ◌∷◌, Option, Some, None}

abbrev pub found_first : Option (List ℕ) → List (List ℕ) → List (List ℕ)
found_first None more = more
found_first (Some v) more = v ∷ more
