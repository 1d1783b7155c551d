use Rattle.std.proofs.Common.{◌≡◌, ◌≤◌, take, reverse, option_copied}
use Rattle.history_standing.specs.Arrivals as calls
use Rattle.poa_history.proofs.calls.call_of.Given as goal

abbrev pub invariant-loop-entry : goal.invariant-loop-entry
invariant-loop-entry l = (option_copied l.found ≡ calls.call_of (reverse (take l.entry-index l.history)) l.arrival)
    × (l.count ≡ calls.arrivals (reverse (take l.entry-index l.history))) × (l.count ≤ l.entry-index)
