use Rattle.std.proofs.Common.{[], refl, sym, ap, ◌∙◌, subst, None}
use Rattle.seat_lock.specs.Seats.{view}
use Rattle.serve_run.specs.declared.task.Task.TheVariants.{Admin}
use Rattle.serve_run.specs.Promises.{Keeps}
use Rattle.serve_run.specs.Attending.{DoorsServed}
use Rattle.serve_run.proofs.Attended.{doors_more, doors_short}
use Rattle.serve_run.proofs.Begun.{begun_held, begun_holds, begun_kept}
use Rattle.serve_run.proofs.Touring.{short_served, some_door, some_same}
use Rattle.serve_run.proofs.serving.serve_doors.Goals as goal

pub serve_lanes-outcome-requires-clause-begun : goal.serve_lanes-outcome-requires-clause-begun
serve_lanes-outcome-requires-clause-begun g c = λ κs bounds.
    begun_kept g.A.Link.Link.shown g.A.Acceptor.standing g.A.Acceptor.faults g.A.Acceptor.ends (view c.args.seat.now) (view c.start.new.seat) c.in-Ok.ensures.kept c.requires.begun

pub door_back-admin-requires : goal.door_back-admin-requires
door_back-admin-requires g c =
    let given = c.in-Ok.ensures.started.given ∙ c.requires.begun.given.1 in
    let keeps = c.join-joined.ensures.joined.keeps c.requires.begun.given.0 given in
    let kept =
    subst (λ x. Keeps c.requires.begun.given.0 g.A.Link.Link.shown g.A.Acceptor.standing g.A.Acceptor.faults g.A.Acceptor.ends x
    (view c.in-Ok.ticket.promise.job.value.seat) c.join-joined.ensures.joined.ran) c.in-Ok.ensures.started.task_is keeps in
    some_door c.join-joined.result.door c.join-joined.ensures.joined.ran.door kept.0 c.join-joined.ensures.joined.door_is kept.1

pub shut_down-lost-requires-clause-conn : goal.shut_down-lost-requires-clause-conn
shut_down-lost-requires-clause-conn g c =
    begun_held g.A.Link.Link.shown g.A.Acceptor.standing g.A.Acceptor.faults g.A.Acceptor.ends (view c.start.new.seat)
    (begun_kept g.A.Link.Link.shown g.A.Acceptor.standing g.A.Acceptor.faults g.A.Acceptor.ends (view c.args.seat.now) (view c.start.new.seat) c.in-Err.ensures.kept c.requires.begun)

pub returns-in-Ok-clause-served : goal.returns-in-Ok-clause-served
returns-in-Ok-clause-served g c = λ k given.
    let started = c.in-Ok.ensures.started in
    let keeps = c.join-joined.ensures.joined.keeps k (started.given ∙ given) in
    let kept =
    subst (λ x. Keeps k g.A.Link.Link.shown g.A.Acceptor.standing g.A.Acceptor.faults g.A.Acceptor.ends x
    (view c.in-Ok.ticket.promise.job.value.seat) c.join-joined.ensures.joined.ran) started.task_is keeps in
    subst (λ o. DoorsServed {A = g.row.A.Denot} {L = g.row.A-Link.Denot} k g.A.Link.Link.shown g.A.Acceptor.standing g.A.Acceptor.faults g.A.Acceptor.ends c.args.doors
    (record { admin = c.door_back-admin.result; lanes = c.serve_lanes-outcome.new.lanes }) o (view c.args.seat.now) (view c.join-joined.new.seat))
    (sym c.with_door.ensures)
    (doors_more k g.A.Link.Link.shown g.A.Acceptor.standing g.A.Acceptor.faults g.A.Acceptor.ends c.in-Ok.ticket.promise.job.value.task c.args.doors
    (record { admin = c.door_back-admin.result; lanes = c.serve_lanes-outcome.new.lanes }) (view c.args.seat.now) (view c.start.new.seat)
    (view c.serve_lanes-outcome.new.seat) (view c.join-joined.new.seat) c.serve_lanes-outcome.result c.in-Ok.ensures.kept c.in-Ok.ensures.taken
    (c.serve_lanes-outcome.ensures.served k (c.in-Ok.ensures.kept.given ∙ given))
    (view c.in-Ok.ticket.promise.job.value.seat) started.room c.join-joined.result.door c.join-joined.result.refused c.join-joined.result.end
    c.join-joined.ensures.joined kept c.door_back-admin.ensures)

pub returns-in-Err-clause-served : goal.returns-in-Err-clause-served
returns-in-Err-clause-served g c = λ k given.
    subst (λ o. DoorsServed {A = g.row.A.Denot} {L = g.row.A-Link.Denot} k g.A.Link.Link.shown g.A.Acceptor.standing g.A.Acceptor.faults g.A.Acceptor.ends c.args.doors
    (record { admin = c.door_in-admin.result; lanes = c.args.doors.lanes }) o (view c.args.seat.now) (view c.shut_down-lost.new.seat)) (sym c.short_of.ensures)
    (doors_short k g.A.Link.Link.shown g.A.Acceptor.standing g.A.Acceptor.faults g.A.Acceptor.ends c.args.doors
    (record { admin = c.door_in-admin.result; lanes = c.args.doors.lanes }) c.in-Err.unstarted.want c.shut_down-lost.result (view c.args.seat.now)
    (view c.shut_down-lost.new.seat)
    (some_same c.in-Err.unstarted.task (Admin c.args.doors.admin) c.door_in-admin.result c.args.doors.admin c.in-Err.ensures.back c.door_in-admin.ensures refl)
    refl
    (short_served k g.A.Link.Link.shown g.A.Acceptor.standing g.A.Acceptor.faults g.A.Acceptor.ends (view c.args.seat.now) (view c.start.new.seat)
    (view c.shut_down-lost.new.seat) given c.in-Err.ensures.kept c.in-Err.ensures.same
    (c.shut_down-lost.ensures.same k (c.in-Err.ensures.kept.given ∙ given))
    (begun_holds g.A.Link.Link.shown g.A.Acceptor.standing g.A.Acceptor.faults g.A.Acceptor.ends k (view c.args.seat.now) c.requires.begun) c.in-Err.unstarted.want c.shut_down-lost.result c.shut_down-lost.ensures.said))
