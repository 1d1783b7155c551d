use Rattle.std.proofs.Common.{subst, sym}
use Rattle.poa_session.specs.Served.{Served}
use Rattle.seat_lock.specs.Seats.{view}
use Rattle.poa_shared.proofs.Helped.{aids_none}
use Rattle.serve_run.proofs.receiving.serve.Goals as goal

pub returns-in-Client-clause-served : goal.returns-in-Client-clause-served
returns-in-Client-clause-served g c = λ k given.
    subst (λ p. Served k p (view c.args.seat.now) (view c.serve_link.new.seat) (g.L.Link.shown c.args.link.now)
    (g.L.Link.shown c.serve_link.new.link) c.serve_link.result) (sym c.in-Client.is) (c.serve_link.ensures.served k given)

pub returns-in-Administrator-clause-served : goal.returns-in-Administrator-clause-served
returns-in-Administrator-clause-served g c = λ k given.
    subst (λ p. Served k p (view c.args.seat.now) (view c.serve_admin.new.seat) (g.L.Link.shown c.args.link.now)
    (g.L.Link.shown c.serve_admin.new.link) c.serve_admin.result) (sym c.in-Administrator.is) (c.serve_admin.ensures.served k given)

pub returns-in-Administrator-clause-aids : goal.returns-in-Administrator-clause-aids
returns-in-Administrator-clause-aids g c = aids_none c.args.aid.now.seat
