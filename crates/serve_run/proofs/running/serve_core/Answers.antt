use Rattle.std.proofs.Common.{◌≡◌, [], arith, sym, ◌∙◌, subst, Some, None}
use Rattle.seat_lock.specs.Seats.{view}
use Rattle.poa_history.specs.Life.{givens_of}
use Rattle.serve_run.proofs.Finishing.{served_run}
use Rattle.serve_run.proofs.Begun.{opened_begun}
use Rattle.serve_run.proofs.Opened.{opened_base, opened_given, opened_room}
use Rattle.serve_run.proofs.running.serve_core.Goals as goal

pub serve_workers-doors-requires-clause-room : goal.serve_workers-doors-requires-clause-room
serve_workers-doors-requires-clause-room g c = λ κs bounds.
    (let room = opened_room (givens_of c.args.core) (view c.in-Some.seat) c.in-Some.ensures.opened in let few = c.requires.workers.1 in
    let lanes = c.requires.lanes in omega arith)

pub serve_workers-doors-requires-clause-begun : goal.serve_workers-doors-requires-clause-begun
serve_workers-doors-requires-clause-begun g c = λ κs bounds.
    opened_begun g.A.Link.Link.shown g.A.Acceptor.standing g.A.Acceptor.faults g.A.Acceptor.ends (givens_of c.args.core) (view c.in-Some.seat) c.in-Some.ensures.opened

pub returns-clause-served : goal.returns-clause-served
returns-clause-served g c =
    let k = givens_of c.args.core in
    let opened = c.in-Some.ensures.opened in
    let given = opened_given k (view c.in-Some.seat) opened in
    let served = c.serve_workers-doors.ensures.served k given in
    served_run k g.A.Link.Link.shown g.A.Acceptor.standing g.A.Acceptor.faults g.A.Acceptor.ends c.args.doors c.serve_workers-doors.result.0 c.serve_workers-doors.result.1
    (view c.in-Some.seat) (view c.serve_workers-doors.new.seat) (view c.phase.new.seat) c.args.workers
    (let some = c.requires.workers.0 in omega arith) given (opened_room k (view c.in-Some.seat) opened) (opened_base k (view c.in-Some.seat) opened) served
    (λ x given'. (let e = c.phase.ensures.phase x given' in (e.0, e.1, e.2.0)))
    c.finish-core.result c.finish-core.ensures.given c.finish-core.ensures.known (c.sessions_stay.ensures k) c.lifetimes_are_kept.ensures
