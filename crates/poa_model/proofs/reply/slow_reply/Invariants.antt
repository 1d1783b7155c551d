use Rattle.std.proofs.Common.{◌≡◌, take, reverse}
use Rattle.poa_base.specs.Store.{stored as stored_at_opening}
use Rattle.poa_history.specs.Replies as replies
use Rattle.poa_model.proofs.reply.slow_reply.Given as goal

abbrev pub invariant-loop-i : goal.invariant-loop-i
invariant-loop-i l = l.reply ≡ replies.reply_of l.run.config.now l.run.number (stored_at_opening l.store) (reverse (take l.i l.history)) l.arrival
