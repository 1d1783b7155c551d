use Rattle.std.proofs.Common.{◌≡◌, length}
use Rattle.replay_script.specs.Edges.{end_trimmed as the_end_trimmed}
use Rattle.replay_script.proofs.edges.end_trimmed.Given as goal

abbrev pub invariant-loop-last : goal.invariant-loop-last
invariant-loop-last l = the_end_trimmed l.front ≡ the_end_trimmed l.text

abbrev pub decreases-loop-last : goal.decreases-loop-last
decreases-loop-last l = length l.front
