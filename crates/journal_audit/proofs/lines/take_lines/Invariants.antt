use Rattle.std.proofs.Common.{length}
use Rattle.journal_audit.proofs.LinesRead.{SoFar}
use Rattle.journal_audit.proofs.lines.take_lines.Given as goal

abbrev pub invariant-loop-front : goal.invariant-loop-front
invariant-loop-front l = SoFar l.fn.first l.fn.text l.fn.watch l.line l.rest l.watch

abbrev pub decreases-loop-front : goal.decreases-loop-front
decreases-loop-front l = length l.rest
