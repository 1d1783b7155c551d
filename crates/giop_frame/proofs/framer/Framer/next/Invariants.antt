use Rattle.std.proofs.Common.{◌≡◌, ◌≤◌, None, length}
use Rattle.giop_frame.specs.Framer.{GiveTheSame, reach}
use Rattle.giop_frame.proofs.framer.Framer.next.Given as goal

abbrev pub invariant-loop-next : goal.invariant-loop-next
invariant-loop-next l = GiveTheSame l.fn.self l.self × (l.self.closed ≡ None) × (reach l.self ≡ reach l.fn.self)
    × (length l.self.unread ≤ length l.fn.self.unread) × (l.self.limit ≡ l.fn.self.limit) × (l.self.first ≡ l.fn.self.first)

abbrev pub decreases-loop-next : goal.decreases-loop-next
decreases-loop-next l = length l.self.unread
