use Rattle.std.proofs.Common.{◌≡◌, length}
use Rattle.giop_frame.specs.Framer.{reach}
use Rattle.poad_bench.proofs.feeding.take.Given as goal

abbrev pub invariant-loop-given : goal.invariant-loop-given
invariant-loop-given l = reach l.framer ≡ reach l.fn.framer

abbrev pub decreases-loop-given : goal.decreases-loop-given
decreases-loop-given l = length l.framer.unread
