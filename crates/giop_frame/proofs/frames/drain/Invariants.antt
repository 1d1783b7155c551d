use Rattle.std.proofs.Common.{◌≡◌, ℕ, List, length}
use Rattle.giop_frame.specs.Framer.{HasGiven, reach}
use Rattle.giop_frame.proofs.frames.drain.Given as goal

abbrev pub invariant-loop-message : goal.invariant-loop-message
invariant-loop-message l =
    ((limit : ℕ) (fed : List ℕ) → HasGiven limit fed l.fn.messages.items l.fn.framer → HasGiven limit fed l.messages.items l.framer)
    × (reach l.framer ≡ reach l.fn.framer)

abbrev pub decreases-loop-message : goal.decreases-loop-message
decreases-loop-message l = length l.framer.unread
