use Rattle.std.proofs.Common.{◌≡◌, drop}
use Rattle.replay_script.specs.Edges.{passed as the_passed}
use Rattle.replay_script.proofs.edges.passed.Given as goal

abbrev pub invariant-loop-i : goal.invariant-loop-i
invariant-loop-i l = the_passed l.class (drop l.i l.text) ≡ the_passed l.class l.text
