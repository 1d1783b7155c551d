-- What a write to a sink answers, and what it adds to the bytes held.
use Rattle.std.specs.Prelude.{◌≡◌, ℕ, ◌<◌, ◌≤◌, List, ◌++◌, take, ⊤}
use Rattle.outside.specs.declared.writing.Wrote.{Wrote}
use Rattle.outside.specs.declared.writing.Wrote.TheVariants as wrote

-- what was written is of the piece, and is something
abbrev pub IsWithin : Wrote → ℕ → Type 0
IsWithin (wrote.Wrote n) size = (0 < n) × (n ≤ size)
IsWithin wrote.Failed size = ⊤

-- the bytes held grow by what was written of the piece
abbrev pub Gains : Wrote → List ℕ → List ℕ → List ℕ → Type 0
Gains (wrote.Wrote n) piece old new = new ≡ old ++ take n piece
Gains wrote.Failed piece old new = new ≡ old
