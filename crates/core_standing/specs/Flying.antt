-- What is in flight.
use Rattle.std.specs.Prelude.{ℕ, Bool, false, ◌==◌, Some, None}
use Rattle.history_standing.specs.declared.flight.Flight.{Flight}

-- in the activation of this number
abbrev pub uses : ℕ → Flight → Bool
uses k f = elim f.activation [ Some m ↦ m == k | None ↦ false ]
