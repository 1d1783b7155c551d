use Rattle.std.proofs.Common.{sym, subst}
use Rattle.seat_lock.specs.Seats.{view}
use Rattle.poa_session.specs.Giving.{AreGiven}
use Rattle.poa_session.proofs.Exchanges.{exchanges_ended, exchanges_spelled, exchanges_unspelled}
use Rattle.poa_session.proofs.exchanging.exchange.Goals as goal

pub hold-requires-clause-next : goal.hold-requires-clause-next
hold-requires-clause-next g c = (c.args.input.now, (c.next-first.ensures.told, c.next-first.ensures.taken))

pub returns-in-Err-clause-first : goal.returns-in-Err-clause-first
returns-in-Err-clause-first g c = λ peer text knows. c.in-Err.ensures.first peer text (c.next-first.ensures.first peer text knows)

pub returns-in-Err-clause-exchanges : goal.returns-in-Err-clause-exchanges
returns-in-Err-clause-exchanges g c = λ givens given peer.
    exchanges_ended givens peer c.args.conn.now.number (view c.args.seat.now) c.args.input.now (view c.hold.new.seat) c.hold.new.input
    c.clear.new.self.given.items c.hold.new.given.items c.clear.ensures.given c.clear.new.self.bytes.items c.in-Err.flow
    (c.in-Err.ensures.holds givens given peer c.args.input.now (c.next-first.ensures.told, c.next-first.ensures.taken))

pub spell-requires : goal.spell-requires
spell-requires g c = c.in-Ok.ensures.given (subst AreGiven (sym c.clear.ensures.given) tt)

pub returns-in-Ok-spell-clause-first : goal.returns-in-Ok-spell-clause-first
returns-in-Ok-spell-clause-first g c = λ peer text knows. c.in-Ok.ensures.first peer text (c.next-first.ensures.first peer text knows)

pub returns-in-Ok-spell-clause-exchanges : goal.returns-in-Ok-spell-clause-exchanges
returns-in-Ok-spell-clause-exchanges g c = λ givens given peer.
    exchanges_spelled givens peer c.args.conn.now.number (view c.args.seat.now) c.args.input.now (view c.hold.new.seat) c.hold.new.input
    c.clear.new.self.given.items c.hold.new.given.items c.clear.ensures.given c.spell.new.self.bytes.items c.in-Ok.exchanged
    (c.in-Ok.ensures.holds givens given peer c.args.input.now (c.next-first.ensures.told, c.next-first.ensures.taken))
    c.clear.new.self.bytes.items c.clear.ensures.bytes c.in-Ok-spell.ensures

pub returns-in-Err-spell-clause-first : goal.returns-in-Err-spell-clause-first
returns-in-Err-spell-clause-first g c = λ peer text knows. c.in-Ok.ensures.first peer text (c.next-first.ensures.first peer text knows)

pub returns-in-Err-spell-clause-exchanges : goal.returns-in-Err-spell-clause-exchanges
returns-in-Err-spell-clause-exchanges g c = λ givens given peer.
    exchanges_unspelled givens peer c.args.conn.now.number (view c.args.seat.now) c.args.input.now (view c.hold.new.seat) c.hold.new.input
    c.clear.new.self.given.items c.hold.new.given.items c.clear.ensures.given c.spell.new.self.bytes.items c.in-Ok.exchanged c.in-Err-spell.field-0
    (c.in-Ok.ensures.holds givens given peer c.args.input.now (c.next-first.ensures.told, c.next-first.ensures.taken))
