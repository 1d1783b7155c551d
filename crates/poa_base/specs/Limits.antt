-- The limits on names, object ids and paths.
use Rattle.std.specs.Prelude.{ℕ, ◌≤◌, List, length}

-- a name has 1 to 64 bytes
abbrev pub IsName : List ℕ → Type 0
IsName bytes = (1 ≤ length bytes) × (length bytes ≤ 64)

-- an object id has at most 256 bytes
abbrev pub IsOid : List ℕ → Type 0
IsOid bytes = length bytes ≤ 256

-- a path has at most 16 names
abbrev pub IsPath : List (List ℕ) → Type 0
IsPath names = length names ≤ 16
