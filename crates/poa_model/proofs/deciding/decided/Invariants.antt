use Rattle.std.proofs.Common.{◌≡◌, take, reverse}
use Rattle.poa_history.specs.Replies as replies
use Rattle.poa_model.proofs.deciding.decided.Given as goal

abbrev pub invariant-loop-i : goal.invariant-loop-i
invariant-loop-i l = l.decided ≡ replies.decided l.run.config.now l.run.number (reverse (take l.i l.history)) l.arrival
