use Rattle.std.proofs.Common.{◌≡◌, ◌==◌, ℕ, true, false, take}
use Rattle.history_standing.specs.declared.flight.Flight.{Flight}
use Rattle.history_standing.specs.Trees.{In}
use Rattle.core_standing.specs.Flying.{uses}
use Rattle.core_standing.specs.Touched.{is_touched}
use Rattle.core_standing.proofs.touched.with_flights.Given as goal

abbrev pub invariant-loop-i : goal.invariant-loop-i
invariant-loop-i l = record {
  before : (k : ℕ) → is_touched l.all k ≡ false → is_touched l.fn.touched k ≡ false;
  each : (f : Flight) (k : ℕ) → In f (take l.i l.flights) → (f.arrival == l.arrival) ≡ true → is_touched l.all k ≡ false → uses k f ≡ false;
}
