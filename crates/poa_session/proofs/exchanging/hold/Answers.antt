use Rattle.std.proofs.Common.{ap, subst, sym}
use Rattle.seat_lock.specs.Seats.{view}
use Rattle.poa_shared.specs.Seen.{HoldsConnection}
use Rattle.poa_session.specs.Exchanging.{Holds}
use Rattle.poa_session.proofs.exchanging.hold.Goals as goal

pub returns-clause-conn : goal.returns-clause-conn
returns-clause-conn g c = subst (λ v. HoldsConnection v c.args.conn.now.number) (sym (ap (λ m. m.0) c.tell.ensures.2)) c.hold_within-result.ensures.conn

pub returns-clause-holds : goal.returns-clause-holds
returns-clause-holds g c = λ givens given peer i next.
    subst (λ v. Holds givens peer c.args.conn.now.number
    (view c.args.seat.now) i v c.hold_within-result.new.input c.args.given.now.items c.hold_within-result.new.given.items
    c.hold_within-result.result)
    (sym (ap (λ m. m.0) c.tell.ensures.2)) (c.hold_within-result.ensures.holds givens given peer i next)
