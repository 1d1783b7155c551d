use Rattle.std.proofs.Common.{rules}
use Rattle.std.specs.Prelude.{Some}
use Rattle.seat_lock.proofs.Draws.{draws}
use Rattle.seat_lock.proofs.Looks.{in_hand}
use Rattle.seat_lock.proofs.lock.SeatLock.take.Goals as goal

pub fetch_add-ticket-requires : goal.fetch_add-ticket-requires
fetch_add-ticket-requires g c = (search rules, search rules, draws _ _ _ _ _ _ _ _ c.requires.free.0)

pub exchange-requires : goal.exchange-requires
exchange-requires g c = let t = c.wait_for.ensures.turn in (search rules, (Some t.0, in_hand _ _ _ _ t.1))
