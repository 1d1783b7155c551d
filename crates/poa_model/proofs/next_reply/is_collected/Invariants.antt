use Rattle.std.proofs.Common.{◌≡◌, take, reverse}
use Rattle.poa_history.specs.Replies as replies
use Rattle.poa_model.proofs.next_reply.is_collected.Given as goal

abbrev pub invariant-loop-entry : goal.invariant-loop-entry
invariant-loop-entry l = l.collected ≡ replies.is_collected (reverse (take l.entry-index l.history)) l.arrival
