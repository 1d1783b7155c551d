use Rattle.std.proofs.Common.{◌≡◌, ◌≤◌, take, reverse}
use Rattle.history_standing.specs.Arrivals as calls
use Rattle.poa_history.proofs.calls.arrivals.Given as goal

abbrev pub invariant-loop-entry : goal.invariant-loop-entry
invariant-loop-entry l = (l.count ≡ calls.arrivals (reverse (take l.entry-index l.history))) × (l.count ≤ l.entry-index)
