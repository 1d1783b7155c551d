use Rattle.std.proofs.Common.{rules}
use Rattle.seat_lock.proofs.Looks.{looks}
use Rattle.seat_lock.proofs.lock.SeatLock.look.Goals as goal

pub load-requires : goal.load-requires
load-requires g c = (search rules, search rules, looks _ _ _ _ _ _ _ _ c.requires.waits.0)
