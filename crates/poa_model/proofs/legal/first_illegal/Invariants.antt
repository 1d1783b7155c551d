use Rattle.std.proofs.Common.{take, reverse}
use Rattle.poa_history.specs.Legal.{IsLegal}
use Rattle.poa_model.proofs.legal.first_illegal.Given as goal

abbrev pub invariant-loop-i : goal.invariant-loop-i
invariant-loop-i l = IsLegal l.run.config.now l.run.number l.limit (reverse (take l.i l.history))
