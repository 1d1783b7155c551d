-- What a read of a source answers, and what it takes of the bytes that are left.
use Rattle.std.specs.Prelude.{◌≡◌, ℕ, ◌<◌, ◌≤◌, List, [], ◌++◌, take, ⊤}
use Rattle.outside.specs.declared.reading.Took.{Took}
use Rattle.outside.specs.declared.reading.Took.TheVariants.{Got, End, Quiet, Failed}

-- what was got fits the buffer, and is something
abbrev pub IsWithin : Took → ℕ → Type 0
IsWithin (Got n) room = (0 < n) × (n ≤ room)
IsWithin _ room = ⊤

-- the bytes that were left begin with those got; at the end none were left
abbrev pub Delivers : Took → List ℕ → List ℕ → List ℕ → Type 0
Delivers (Got n) buf old new = old ≡ take n buf ++ new
Delivers End buf old new = (old ≡ []) × (new ≡ [])
Delivers Quiet buf old new = new ≡ old
Delivers Failed buf old new = new ≡ old
