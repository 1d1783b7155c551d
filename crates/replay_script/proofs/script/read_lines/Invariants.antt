use Rattle.std.proofs.Common.{length}
use Rattle.replay_script.proofs.Lines.{LinesRead}
use Rattle.replay_script.proofs.script.read_lines.Given as goal

abbrev pub invariant-loop-front : goal.invariant-loop-front
invariant-loop-front l = LinesRead l.fn.text l.connections.rows.items l.connections.names.items l.steps.items l.number l.rest

abbrev pub decreases-loop-front : goal.decreases-loop-front
decreases-loop-front l = length l.rest
