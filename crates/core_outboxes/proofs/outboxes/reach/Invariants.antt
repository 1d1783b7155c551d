use Rattle.std.proofs.Common.{◌≡◌, ◌<◌, ℕ, length}
use Rattle.core_outboxes.specs.Outboxes.{awaited_at, replies_at}
use Rattle.core_outboxes.proofs.outboxes.reach.Given as goal

abbrev pub invariant-loop : goal.invariant-loop
invariant-loop l =
    ((n : ℕ) → (replies_at l.boxes.items n ≡ replies_at l.fn.boxes.items n) × (awaited_at l.boxes.items n ≡ awaited_at l.fn.boxes.items n))
    × (l.conn < length l.fn.boxes.items → l.boxes.items ≡ l.fn.boxes.items)
