use Rattle.std.proofs.Common.{length}
use Rattle.outside.proofs.Written.{Written}
use Rattle.outside.proofs.sending.write_all.Given as goal

abbrev pub invariant-loop-rest : goal.invariant-loop-rest
invariant-loop-rest g l = Written (g.L.Link.shown l.initial.link) (g.L.Link.shown l.link) l.bytes l.rest

abbrev pub decreases-loop-rest : goal.decreases-loop-rest
decreases-loop-rest g l = length l.rest
