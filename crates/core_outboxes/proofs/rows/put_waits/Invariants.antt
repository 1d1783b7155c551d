use Rattle.std.proofs.Common.{◌≡◌, ◌++◌, map, take, drop}
use Rattle.std.specs.VecDeque.{deque_len, deque_capacity}
use Rattle.core_outboxes.specs.Desk as desks
use Rattle.core_outboxes.proofs.rows.put_waits.Given as goal

abbrev pub invariant-loop-i : goal.invariant-loop-i
invariant-loop-i l =
    (l.owing.items ≡ map (desks.set_wait l.arrival l.wait) (take l.i l.fn.owing.items) ++ drop l.i l.fn.owing.items)
    × (deque_len l.owing ≡ deque_len l.fn.owing)
    × (deque_capacity l.owing ≡ deque_capacity l.fn.owing)
