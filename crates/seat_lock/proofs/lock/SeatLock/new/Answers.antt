use Rattle.std.proofs.Common.{rules, refl}
use Rattle.seat_lock.proofs.Joins.{opens_with}
use Rattle.seat_lock.proofs.lock.SeatLock.new.Goals as goal

pub new-requires : goal.new-requires
new-requires g c = opens_with _ _ _ c.args.value _ (search rules) _ _ (search rules) (search rules) refl refl
