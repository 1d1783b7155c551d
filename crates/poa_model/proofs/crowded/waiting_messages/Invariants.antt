use Rattle.std.proofs.Common.{◌≡◌, ◌≤◌, ◌&&◌, reverse}
use Rattle.history_standing.specs.Searches.{count_below}
use Rattle.history_standing.specs.Arrivals as calls
use Rattle.history_standing.specs.Stages as begun
use Rattle.poa_model.proofs.crowded.waiting_messages.Given as goal

abbrev pub invariant-loop-arrival : goal.invariant-loop-arrival
invariant-loop-arrival l =
    (l.count ≡ count_below (λ r. begun.is_unadmitted (reverse l.history) r && calls.is_message (calls.call_of (reverse l.history) r)) l.arrival)
    × (l.count ≤ l.arrival)
