use Rattle.std.proofs.Common.{sym, ◌∙◌, subst}
use Rattle.seat_lock.specs.Seats.{view}
use Rattle.serve_run.specs.Attending.{AllServed}
use Rattle.serve_run.proofs.Attended.{all_short, all_shut, conn_held, none_short, some_short}
use Rattle.serve_run.proofs.serving.serve_and_shut.Goals as goal

pub returns-then-is_some-clause-served : goal.returns-then-is_some-clause-served
returns-then-is_some-clause-served g c = λ k given.
    all_short k g.A.Link.Link.shown g.A.Acceptor.standing g.A.Acceptor.faults g.A.Acceptor.ends c.args.doors c.serve_doors-doors.result.0 c.serve_doors-doors.result.1
    (view c.args.seat.now) (view c.serve_doors-doors.new.seat)
    (some_short c.serve_doors-doors.result.1.short (sym c.is_some.ensures ∙ c.if-is_some.true)) (c.serve_doors-doors.ensures.served k given)

pub shut_down-lost-requires-clause-conn : goal.shut_down-lost-requires-clause-conn
shut_down-lost-requires-clause-conn g c =
    let k = c.requires.begun.given in
    conn_held k.0 g.A.Link.Link.shown g.A.Acceptor.standing g.A.Acceptor.faults g.A.Acceptor.ends c.args.doors c.serve_doors-doors.result.0 c.serve_doors-doors.result.1
    (view c.args.seat.now) (view c.serve_doors-doors.new.seat) k.1
    (none_short c.serve_doors-doors.result.1.short (sym c.is_some.ensures ∙ c.if-is_some.false)) (c.serve_doors-doors.ensures.served k.0 k.1)

pub returns-clause-served : goal.returns-clause-served
returns-clause-served g c = λ k given.
    let served = c.serve_doors-doors.ensures.served k given in
    subst (λ o. AllServed {A = g.row.A.Denot}
    {L = g.row.A-Link.Denot} k g.A.Link.Link.shown g.A.Acceptor.standing g.A.Acceptor.faults g.A.Acceptor.ends 0 c.args.doors c.serve_doors-doors.result.0 o
    (view c.args.seat.now) (view c.shut_down-lost.new.seat)) (sym c.with_loss.ensures)
    (all_shut k g.A.Link.Link.shown g.A.Acceptor.standing g.A.Acceptor.faults g.A.Acceptor.ends c.args.doors c.serve_doors-doors.result.0 c.serve_doors-doors.result.1
    (view c.args.seat.now) (view c.serve_doors-doors.new.seat) given
    (none_short c.serve_doors-doors.result.1.short (sym c.is_some.ensures ∙ c.if-is_some.false)) served (view c.shut_down-lost.new.seat) c.shut_down-lost.result
    (c.shut_down-lost.ensures.same k (served.served.same.given ∙ given)) c.shut_down-lost.ensures.said)
