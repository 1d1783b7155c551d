use Rattle.std.proofs.Common.{rules}
use Rattle.seat_lock.proofs.Joins.{joins, learns, unites}
use Rattle.seat_lock.proofs.lock.SeatLock.join.Goals as goal

pub join_seat-requires : goal.join_seat-requires
join_seat-requires g c =
    (search rules, search rules, search rules, search rules, joins _ _ _ _ _ _ c.args.seat.now.me.0 _ c.args.other.me.0 c.requires.free.0.0 c.requires.free.1.0)

pub load-requires : goal.load-requires
load-requires g c = (search rules, search rules, learns _ _ _ _ _ _ _ _ (search rules))

pub returns-clause-united : goal.returns-clause-united
returns-clause-united g c =
    unites c.args.seat.now.me.0 c.args.other.me.0 c.join_seat.new.seat.me.0 c.load.new.seat.me.0 (search rules)
    (search rules) c.load.ensures.2.1 c.load.ensures.2.2
