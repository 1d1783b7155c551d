use Rattle.std.proofs.Common.{◌≡◌, take, reverse}
use Rattle.poa_history.specs.Legal as legal
use Rattle.poa_model.proofs.arriving.has_left.Given as goal

abbrev pub invariant-loop-entry : goal.invariant-loop-entry
invariant-loop-entry l = l.left ≡ legal.has_left (reverse (take l.entry-index l.history)) l.conn
