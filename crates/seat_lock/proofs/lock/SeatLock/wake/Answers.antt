use Rattle.std.proofs.Common.{rules, ℕ, ◌+◌, ◌%◌, ◌^◌}
use Rattle.seat_lock.proofs.Marks.{marks}
use Rattle.seat_lock.proofs.lock.SeatLock.wake.Goals as goal

pub fetch_add-requires : goal.fetch_add-requires
fetch_add-requires g c = (search rules, search rules, marks _ _ _ _ _ _ _ _ 1 (λ (n : ℕ). (n + 1) % 2 ^ 64) c.requires.word.0 _)
