use Rattle.std.proofs.Common.{◌≡◌, ◌+◌, ◌-◌, [], refl, arith, sym, ap, ◌∙◌, subst, None}
use Rattle.seat_lock.specs.Seats.{view}
use Rattle.serve_run.specs.Promises.{Keeps}
use Rattle.serve_run.specs.Attending.{AllServed}
use Rattle.serve_run.specs.Outcomes.{is_loss, with_loss}
use Rattle.serve_run.specs.declared.outcome.Want.TheVariants.{Memory}
use Rattle.serve_run.proofs.Attended.{workers_more, workers_short}
use Rattle.serve_run.proofs.Begun.{begun_held, begun_holds, begun_kept}
use Rattle.serve_run.proofs.Touring.{kept_itself, short_served}
use Rattle.serve_run.proofs.working.+serve_workers.Goals as goal

pub returns-then-count-eq0-clause-served : goal.returns-then-count-eq0-clause-served
returns-then-count-eq0-clause-served g t c = λ k given.
    let none : c.args.count ≡ 0 = omega arith in
    subst (λ n. AllServed {A = g.row.A.Denot}
    {L = g.row.A-Link.Denot} k g.A.Link.Link.shown g.A.Acceptor.standing g.A.Acceptor.faults g.A.Acceptor.ends n c.args.doors c.serve_and_shut.result.0 c.serve_and_shut.result.1
    (view c.args.seat.now) (view c.serve_and_shut.new.seat)) (sym none) (c.serve_and_shut.ensures.served k given)

pub shut_down-lost-requires-clause-conn : goal.shut_down-lost-requires-clause-conn
shut_down-lost-requires-clause-conn g t c =
    begun_held g.A.Link.Link.shown g.A.Acceptor.standing g.A.Acceptor.faults g.A.Acceptor.ends (view c.args.seat.now) c.requires.begun

pub returns-in_default-clause-served : goal.returns-in_default-clause-served
returns-in_default-clause-served g t c = λ k given.
    subst (λ o. AllServed {A = g.row.A.Denot}
    {L = g.row.A-Link.Denot} k g.A.Link.Link.shown g.A.Acceptor.standing g.A.Acceptor.faults g.A.Acceptor.ends c.args.count c.args.doors c.args.doors o (view c.args.seat.now)
    (view c.shut_down-lost.new.seat)) (sym c.short_of.ensures)
    (workers_short k g.A.Link.Link.shown g.A.Acceptor.standing g.A.Acceptor.faults g.A.Acceptor.ends c.args.count c.args.doors Memory c.shut_down-lost.result
    (view c.args.seat.now) (view c.shut_down-lost.new.seat)
    (short_served k g.A.Link.Link.shown g.A.Acceptor.standing g.A.Acceptor.faults g.A.Acceptor.ends (view c.args.seat.now) (view c.args.seat.now)
    (view c.shut_down-lost.new.seat) given (kept_itself (view c.args.seat.now)) refl
    (c.shut_down-lost.ensures.same k given) (begun_holds g.A.Link.Link.shown g.A.Acceptor.standing g.A.Acceptor.faults g.A.Acceptor.ends k (view c.args.seat.now) c.requires.begun) Memory c.shut_down-lost.result c.shut_down-lost.ensures.said))

pub serve_workers-doors-requires-clause-begun : goal.serve_workers-doors-requires-clause-begun
serve_workers-doors-requires-clause-begun g t c = λ κs bounds.
    begun_kept g.A.Link.Link.shown g.A.Acceptor.standing g.A.Acceptor.faults g.A.Acceptor.ends (view c.args.seat.now) (view c.start.new.seat) c.in-Ok-start.ensures.kept c.requires.begun

pub returns-in-Ok-start-clause-served : goal.returns-in-Ok-start-clause-served
returns-in-Ok-start-clause-served g t c = λ k given.
    let started = c.in-Ok-start.ensures.started in
    let keeps = c.join-joined.ensures.joined.keeps k (started.given ∙ given) in
    let kept =
    subst (λ x. Keeps k g.A.Link.Link.shown g.A.Acceptor.standing g.A.Acceptor.faults g.A.Acceptor.ends x
    (view c.in-Ok-start.ticket.promise.job.value.seat) c.join-joined.ensures.joined.ran) started.task_is keeps in
    let next : c.args.count ≡ (c.args.count - 1) + 1 = omega arith in
    let total : c.with_loss.result ≡ with_loss (is_loss c.join-joined.result.end) c.serve_workers-doors.result.1 = c.with_loss.ensures
    ∙ ap (λ b. with_loss b c.serve_workers-doors.result.1) c.is_loss.ensures in
    subst (λ o. AllServed {A = g.row.A.Denot}
    {L = g.row.A-Link.Denot} k g.A.Link.Link.shown g.A.Acceptor.standing g.A.Acceptor.faults g.A.Acceptor.ends c.args.count c.args.doors c.serve_workers-doors.result.0 o
    (view c.args.seat.now) (view c.join-joined.new.seat)) (sym total)
    (workers_more k g.A.Link.Link.shown g.A.Acceptor.standing g.A.Acceptor.faults g.A.Acceptor.ends c.in-Ok-start.ticket.promise.job.value.task
    (c.args.count - 1) c.args.count next c.args.doors c.serve_workers-doors.result.0 (view c.args.seat.now) (view c.start.new.seat)
    (view c.serve_workers-doors.new.seat) (view c.join-joined.new.seat) c.serve_workers-doors.result.1 c.in-Ok-start.ensures.kept c.in-Ok-start.ensures.taken
    (c.serve_workers-doors.ensures.served k (c.in-Ok-start.ensures.kept.given ∙ given))
    (view c.in-Ok-start.ticket.promise.job.value.seat) started.room started.fresh c.join-joined.result.door c.join-joined.result.refused
    c.join-joined.result.end c.join-joined.ensures.joined kept.2.0 kept.2.1 kept.2.2)

pub returns-in-Err-clause-served : goal.returns-in-Err-clause-served
returns-in-Err-clause-served g t c = λ k given.
    subst (λ o. AllServed {A = g.row.A.Denot}
    {L = g.row.A-Link.Denot} k g.A.Link.Link.shown g.A.Acceptor.standing g.A.Acceptor.faults g.A.Acceptor.ends c.args.count c.args.doors c.args.doors o (view c.args.seat.now)
    (view c.shut_down-lost-in-Err.new.seat)) (sym c.short_of-in-Err.ensures)
    (workers_short k g.A.Link.Link.shown g.A.Acceptor.standing g.A.Acceptor.faults g.A.Acceptor.ends c.args.count c.args.doors c.in-Err.unstarted.want
    c.shut_down-lost-in-Err.result (view c.args.seat.now) (view c.shut_down-lost-in-Err.new.seat)
    (short_served k g.A.Link.Link.shown g.A.Acceptor.standing g.A.Acceptor.faults g.A.Acceptor.ends (view c.args.seat.now) (view c.start.new.seat)
    (view c.shut_down-lost-in-Err.new.seat) given c.in-Err.ensures.kept c.in-Err.ensures.same
    (c.shut_down-lost-in-Err.ensures.same k (c.in-Err.ensures.kept.given ∙ given))
    (begun_holds g.A.Link.Link.shown g.A.Acceptor.standing g.A.Acceptor.faults g.A.Acceptor.ends k (view c.args.seat.now) c.requires.begun) c.in-Err.unstarted.want c.shut_down-lost-in-Err.result c.shut_down-lost-in-Err.ensures.said))
