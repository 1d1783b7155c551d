-- A text cut at the first byte s.
use Rattle.std.specs.Prelude.{ℕ, ◌==◌, List, [], ◌∷◌, Option, Some, None, if◌then◌else◌}

-- what stands before that byte, or the whole text where it has none
abbrev pub before : ℕ → List ℕ → List ℕ
before s [] = []
before s (c ∷ cs) = if c == s then [] else c ∷ before s cs

-- what stands behind that byte, where the text has one
abbrev pub behind : ℕ → List ℕ → Option (List ℕ)
behind s [] = None
behind s (c ∷ cs) = if c == s then Some cs else behind s cs
