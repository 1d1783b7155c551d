use Rattle.std.proofs.Common.{◌≡◌, take, reverse}
use Rattle.poa_history.specs.Replies as replies
use Rattle.poa_model.proofs.next_reply.slow_next_reply.Given as goal

abbrev pub invariant-loop-i : goal.invariant-loop-i
invariant-loop-i l = l.found ≡ replies.next_within l.run.config.now l.run.number (reverse l.history) l.conn (reverse (take l.i l.history))
