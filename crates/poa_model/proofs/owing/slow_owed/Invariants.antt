use Rattle.std.proofs.Common.{◌≡◌, ◌≤◌, ◌&&◌, not, reverse}
use Rattle.history_standing.specs.Searches.{count_below}
use Rattle.poa_history.specs.Replies as replies
use Rattle.poa_model.proofs.owing.slow_owed.Given as goal

abbrev pub invariant-loop-arrival : goal.invariant-loop-arrival
invariant-loop-arrival l =
    (l.owed ≡ count_below (λ r. replies.is_asked (reverse l.history) l.conn r && not (replies.decided l.run.config.now l.run.number (reverse l.history) r)) l.arrival)
    × (l.owed ≤ l.arrival)
