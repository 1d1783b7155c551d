use Rattle.std.proofs.Common.{◌+◌, ◌≤◌, length}
use Rattle.giop_frame.specs.Framer.{reach}
use Rattle.poad_bench.proofs.feeding.feed.Given as goal

abbrev pub invariant-loop-rest : goal.invariant-loop-rest
invariant-loop-rest l = reach l.framer + length l.rest ≤ reach l.fn.framer + length l.fn.text

abbrev pub decreases-loop-rest : goal.decreases-loop-rest
decreases-loop-rest l = length l.rest
