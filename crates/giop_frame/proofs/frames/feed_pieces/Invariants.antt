use Rattle.std.proofs.Common.{◌+◌, ◌≤◌, ℕ, [], take, length}
use Rattle.giop_frame.specs.Framer.{HasGiven, reach}
use Rattle.giop_frame.specs.Frames.{joined_pieces}
use Rattle.giop_frame.proofs.frames.feed_pieces.Given as goal

abbrev pub invariant-loop-piece : goal.invariant-loop-piece
invariant-loop-piece l =
    ((limit : ℕ) → HasGiven limit [] l.fn.messages.items l.fn.framer
    → HasGiven limit (joined_pieces (take l.piece-index l.pieces)) l.messages.items l.framer)
    × (reach l.framer ≤ reach l.fn.framer + length (joined_pieces (take l.piece-index l.pieces)))
