-- What a delivery gives a sink, and what a read from the front of a source takes.
use Rattle.std.specs.Prelude.{◌≡◌, ℕ, List, ◌++◌, Bool, true, false, take}

-- the sink gained all the bytes, or else a front of them
abbrev pub Hands : Bool → List ℕ → List ℕ → List ℕ → Type 0
Hands true bytes old new = new ≡ old ++ bytes
Hands false bytes old new = (n : ℕ) × (new ≡ old ++ take n bytes)
