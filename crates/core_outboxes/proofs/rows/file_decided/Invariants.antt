use Rattle.std.proofs.Common.{◌≡◌, ◌==◌, ◌≤◌, ◌++◌, ℕ, false, not, drop, filter, length, map, take}
use Rattle.std.specs.VecDeque.{deque_len, deque_capacity}
use Rattle.std.specs.List.{list_any}
use Rattle.history_standing.specs.Stages as begun
use Rattle.core_standing.specs.Seen.{seen}
use Rattle.core_outboxes.specs.Decided.{target_of}
use Rattle.core_outboxes.specs.Desk as desks
use Rattle.core_outboxes.specs.Outboxes.{HasRoomAt, awaited_at, replies_at}
use Rattle.core_outboxes.proofs.rows.file_decided.Given as goal

-- those before are filed, or are behind the others, and the decision is as it was where its row isn't among them
abbrev pub invariant-loop-i : goal.invariant-loop-i
invariant-loop-i l = record {
  kept : l.owing.items ≡ drop l.i l.fn.owing.items ++ filter
      (λ o. not (desks.is_decided l.config (seen l.standing) (target_of l.fn.decision) l.ordered o)) (take l.i l.fn.owing.items);
  filed : (n : ℕ) → replies_at l.outboxes.boxes.items n ≡ replies_at l.fn.outboxes.boxes.items n ++ filter (λ f. f.conn == n)
      (map (desks.file l.fn.decision) (filter (desks.is_decided l.config (seen l.standing) (target_of l.fn.decision) l.ordered) (take l.i l.fn.owing.items)));
  awaited : (n : ℕ) → awaited_at l.outboxes.boxes.items n ≡ length (filter (λ o. o.conn == n) l.owing.items);
  target : target_of l.decision ≡ target_of l.fn.decision;
  left : list_any (λ o. begun.is_at o.arrival (target_of l.fn.decision)) (take l.i l.fn.owing.items) ≡ false → l.decision ≡ l.fn.decision;
  fewer : deque_len l.owing ≤ deque_len l.fn.owing;
  places : deque_capacity l.owing ≡ deque_capacity l.fn.owing;
  room : (n : ℕ) → HasRoomAt l.fn.outboxes.boxes.items n → HasRoomAt l.outboxes.boxes.items n;
}
