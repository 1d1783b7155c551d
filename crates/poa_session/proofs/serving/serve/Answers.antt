use Rattle.std.proofs.Common.{ap, refl, ◌∙◌}
use Rattle.seat_lock.specs.Seats.{view}
use Rattle.poa_history.specs.Life.{Life}
use Rattle.poa_shared.proofs.Helped.{aids_none}
use Rattle.poa_session.proofs.Entering.{begun}
use Rattle.poa_session.proofs.Served.{refused, served}
use Rattle.poa_session.proofs.Saying.{said_none}
use Rattle.poa_session.proofs.serving.serve.Goals as goal

pub returns-in-Err-clause-served : goal.returns-in-Err-clause-served
returns-in-Err-clause-served g c = λ givens given.
    (let e = c.in-Err.ensures.entered givens given in
    refused givens c.args.peer (view c.args.seat.now) e.0 (view c.enter.new.seat) (g.L.Link.shown c.args.link.now)
    (g.L.Link.shown c.turn_away.new.link) c.in-Err.fault c.turn_away.result e.1 e.2 c.turn_away.ensures)

pub returns-clause-served : goal.returns-clause-served
returns-clause-served g c = λ givens given.
    (let e = c.in-Ok.ensures.entered givens given in
    let talked = c.converse-end.ensures.converses givens (e.1.given ∙ given) in
    let l = c.leave.ensures.left givens (talked.adds.given ∙ (e.1.given ∙ given)) in
    served givens c.args.peer c.in-Ok.conn (view c.args.seat.now) e.0 (view c.enter.new.seat) (view c.converse-end.new.seat) l.0 (view c.leave.new.seat)
    (g.L.Link.shown c.args.link.now) (g.L.Link.shown c.converse-end.new.link) c.converse-end.result
    e.1 (begun givens (view c.args.seat.now) e.0 (view c.enter.new.seat) c.in-Ok.conn e.1 e.2) talked c.converse-end.ensures.conn.owns l.1
    (ap (λ (x : Life). x.history) l.2) _ refl (c.converse-end.ensures.read givens (e.1.given ∙ given)).rose c.converse-end.ensures.written.rose)

pub returns-in-Err-clause-aids : goal.returns-in-Err-clause-aids
returns-in-Err-clause-aids g c = aids_none c.args.aid.now.seat

pub converse-end-requires-clause-said : goal.converse-end-requires-clause-said
converse-end-requires-clause-said g c =
    (let given = c.in-Ok.ensures.given in
    let e = c.in-Ok.ensures.entered given.0 given.1 in
    said_none given.0 c.in-Ok.conn (view c.args.seat.now) e.0 (view c.enter.new.seat) e.1 given.1 e.2)
