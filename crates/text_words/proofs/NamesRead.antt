-- Names read one after another.
use Rattle.std.proofs.Common.{ℕ, List, ◌++◌, Option, Some, None}

-- what is read behind the names that were
abbrev pub behind_names : List (List ℕ) → Option (List (List ℕ)) → Option (List (List ℕ))
behind_names ns None = None
behind_names ns (Some more) = Some (ns ++ more)
