use Rattle.seat_lock.specs.Seats.{view}
use Rattle.poa_shared.proofs.Helped.{aids_none}
use Rattle.poa_session.proofs.Talking.{sits_lost, sits_new}
use Rattle.poa_session.proofs.conversing.converse.Goals as goal

pub returns-in_default-clause-converses : goal.returns-in_default-clause-converses
returns-in_default-clause-converses g c = λ givens given.
    sits_lost givens c.args.conn.now.peer c.args.conn.now.number (view c.args.seat.now) (g.L.Link.shown c.args.link.now) (view c.args.seat.now)
    (g.L.Link.shown c.args.link.now) c.new-input.result
    (sits_new givens c.args.conn.now.peer c.args.conn.now.number (view c.args.seat.now)
    (g.L.Link.shown c.args.link.now) c.new-input.result c.new-input.ensures.expects c.new-input.ensures.taken
    c.new-input.ensures.first)

pub returns-then-is_err-clause-converses : goal.returns-then-is_err-clause-converses
returns-then-is_err-clause-converses g c = λ givens given.
    sits_lost givens c.args.conn.now.peer c.args.conn.now.number (view c.args.seat.now) (g.L.Link.shown c.args.link.now) (view c.args.seat.now)
    (g.L.Link.shown c.args.link.now) c.new-input.result
    (sits_new givens c.args.conn.now.peer c.args.conn.now.number (view c.args.seat.now)
    (g.L.Link.shown c.args.link.now) c.new-input.result c.new-input.ensures.expects c.new-input.ensures.taken
    c.new-input.ensures.first)

pub returns-in_default-clause-aids : goal.returns-in_default-clause-aids
returns-in_default-clause-aids g c = aids_none c.args.aid.now.seat

pub returns-then-is_err-clause-aids : goal.returns-then-is_err-clause-aids
returns-then-is_err-clause-aids g c = aids_none c.args.aid.now.seat
