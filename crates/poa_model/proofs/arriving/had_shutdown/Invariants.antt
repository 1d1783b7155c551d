use Rattle.std.proofs.Common.{◌≡◌, take, reverse}
use Rattle.poa_history.specs.Legal as legal
use Rattle.poa_model.proofs.arriving.had_shutdown.Given as goal

abbrev pub invariant-loop-entry : goal.invariant-loop-entry
invariant-loop-entry l = l.had ≡ legal.had_shutdown (reverse (take l.entry-index l.history))
