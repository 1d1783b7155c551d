use Rattle.std.proofs.Common.{rules}
use Rattle.seat_lock.proofs.Joins.{splits}
use Rattle.seat_lock.proofs.lock.SeatLock.split.Goals as goal

pub split_seat-requires : goal.split_seat-requires
split_seat-requires g c = (search rules, search rules, splits _ _ _ _ _ _ c.args.seat.now.me.0 c.requires.free.0 c.requires.room)
