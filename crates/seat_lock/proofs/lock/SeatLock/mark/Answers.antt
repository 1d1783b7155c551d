use Rattle.std.proofs.Common.{rules, ℕ, bit_or}
use Rattle.seat_lock.proofs.Marks.{marks}
use Rattle.seat_lock.proofs.lock.SeatLock.mark.Goals as goal

pub fetch_or-found-requires : goal.fetch_or-found-requires
fetch_or-found-requires g c = (search rules, search rules, marks _ _ _ _ _ _ _ _ 1 (λ (n : ℕ). bit_or n 1) c.requires.word.0 _)
