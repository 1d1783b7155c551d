use Rattle.std.proofs.Common.{◌≡◌, take, reverse}
use Rattle.poa_history.specs.Settling as settling
use Rattle.poa_model.proofs.settling.is_overtaken.Given as goal

abbrev pub invariant-loop-i : goal.invariant-loop-i
invariant-loop-i l = l.overtaken ≡ settling.is_overtaken l.config l.manager (reverse (take l.i l.history)) l.arrival
