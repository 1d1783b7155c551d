use Rattle.std.proofs.Common.{◌≡◌, ◌+◌, ◌&&◌, not, take, reverse}
use Rattle.history_standing.specs.Searches.{least}
use Rattle.poa_history.specs.Replies as replies
use Rattle.poa_model.proofs.next_reply.first_decided.Given as goal

abbrev pub invariant-loop-arrival : goal.invariant-loop-arrival
invariant-loop-arrival l = l.found ≡ least (λ r. replies.is_asked (reverse l.history) l.conn r && (not (replies.is_collected (reverse l.history) r)
    && (replies.decided l.run.config.now l.run.number (reverse (take (l.place + 1) l.history)) r && not
    (replies.decided l.run.config.now l.run.number (reverse (take l.place l.history)) r)))) l.arrival
