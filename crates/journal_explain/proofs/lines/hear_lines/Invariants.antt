use Rattle.std.proofs.Common.{length}
use Rattle.journal_explain.proofs.Heard.{HeardSoFar}
use Rattle.journal_explain.proofs.lines.hear_lines.Given as goal

abbrev pub invariant-loop-front : goal.invariant-loop-front
invariant-loop-front l = HeardSoFar l.fn.first l.fn.text l.fn.explainer l.line l.rest l.explainer

abbrev pub decreases-loop-front : goal.decreases-loop-front
decreases-loop-front l = length l.rest
