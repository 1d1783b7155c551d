use Rattle.std.proofs.Common.{◌++◌, ◌∷◌, [], rules, refl, sym, ap, ◌∙◌, subst, None}
use Rattle.seat_lock.specs.Seats.{view}
use Rattle.poa_shared.specs.Helping.{Aids}
use Rattle.serve_run.specs.declared.task.Task.TheVariants.{Lane}
use Rattle.serve_run.specs.Promises.{Keeps}
use Rattle.serve_run.specs.Aiding.{AidJoined}
use Rattle.serve_run.specs.Lanes.{LanesServed}
use Rattle.serve_run.proofs.JoiningAids.{lanes_aided, rejoined, split_kept}
use Rattle.serve_run.proofs.Begun.{begun_held, begun_holds, begun_kept}
use Rattle.serve_run.proofs.Touring.{kept_both, lanes_more, no_lanes, short_lanes, some_door, some_same, some_last}
use Rattle.serve_run.proofs.lanes.+serve_lanes.Goals as goal

pub returns-in_default-clause-served : goal.returns-in_default-clause-served
returns-in_default-clause-served g t c = λ k given.
    subst (λ o. LanesServed {A = g.row.A.Denot}
    {L = g.row.A-Link.Denot} k g.A.Link.Link.shown g.A.Acceptor.standing g.A.Acceptor.faults g.A.Acceptor.ends c.args.lanes.now.items c.pop.new.self.items o
    (view c.args.seat.now) (view c.args.seat.now)) (sym c.good.ensures)
    (no_lanes k g.A.Link.Link.shown g.A.Acceptor.standing g.A.Acceptor.faults g.A.Acceptor.ends c.args.lanes.now.items c.pop.new.self.items
    (view c.args.seat.now) c.in_default.ensures.items (search rules) (begun_holds g.A.Link.Link.shown g.A.Acceptor.standing g.A.Acceptor.faults g.A.Acceptor.ends k (view c.args.seat.now) c.requires.begun))

pub serve_lanes-outcome-requires-clause-begun : goal.serve_lanes-outcome-requires-clause-begun
serve_lanes-outcome-requires-clause-begun g t c = λ κs bounds.
    let split = split_kept (view c.args.seat.now) (view c.split_aid-aid.new.seat) c.split_aid-aid.result.seat c.split_aid-aid.ensures.split in
    let kept = kept_both (view c.args.seat.now) (view c.split_aid-aid.new.seat) (view c.start.new.seat) split c.in-Ok.ensures.kept in
    begun_kept g.A.Link.Link.shown g.A.Acceptor.standing g.A.Acceptor.faults g.A.Acceptor.ends (view c.args.seat.now) (view c.start.new.seat) kept c.requires.begun

pub door_back-requires : goal.door_back-requires
door_back-requires g t c =
    let split = split_kept (view c.args.seat.now) (view c.split_aid-aid.new.seat) c.split_aid-aid.result.seat c.split_aid-aid.ensures.split in
    let given = c.in-Ok.ensures.started.given ∙ (split.given ∙ c.requires.begun.given.1) in
    let keeps = c.join-joined.ensures.joined.keeps c.requires.begun.given.0 given in
    let kept =
    subst (λ x. Keeps c.requires.begun.given.0 g.A.Link.Link.shown g.A.Acceptor.standing g.A.Acceptor.faults g.A.Acceptor.ends x
    (view c.in-Ok.ticket.promise.job.value.seat) c.join-joined.ensures.joined.ran) c.in-Ok.ensures.started.task_is keeps in
    some_door c.join-joined.result.door c.join-joined.ensures.joined.ran.door kept.0 c.join-joined.ensures.joined.door_is kept.1

pub shut_down-lost-requires-clause-conn : goal.shut_down-lost-requires-clause-conn
shut_down-lost-requires-clause-conn g t c =
    let back = subst (λ a. AidJoined (view c.start.new.seat) a.seat (view c.join_aid-in-Err.new.seat)) c.in-Err.ensures.aid c.join_aid-in-Err.ensures.joined in
    let some_room =
    some_last c.args.lanes.now.items c.pop.new.self.items c.in-Some.lane c.args.lanes.now.len
    (view c.args.seat.now) c.args.lanes.now.ok.0 c.in-Some.ensures.items c.requires.room in
    let again =
    rejoined (view c.args.seat.now) (view c.split_aid-aid.new.seat) (view c.start.new.seat)
    (view c.join_aid-in-Err.new.seat) c.in-Err.ensures.kept c.in-Err.ensures.same some_room c.split_aid-aid.result.seat c.split_aid-aid.ensures.split back in
    begun_held g.A.Link.Link.shown g.A.Acceptor.standing g.A.Acceptor.faults g.A.Acceptor.ends (view c.join_aid-in-Err.new.seat)
    (begun_kept g.A.Link.Link.shown g.A.Acceptor.standing g.A.Acceptor.faults g.A.Acceptor.ends (view c.args.seat.now) (view c.join_aid-in-Err.new.seat) again.0 c.requires.begun)

pub returns-in-Ok-clause-served : goal.returns-in-Ok-clause-served
returns-in-Ok-clause-served g t c = λ k given.
    let split = split_kept (view c.args.seat.now) (view c.split_aid-aid.new.seat) c.split_aid-aid.result.seat c.split_aid-aid.ensures.split in
    let started = c.in-Ok.ensures.started in
    let keeps = c.join-joined.ensures.joined.keeps k (started.given ∙ (split.given ∙ given)) in
    let kept =
    subst (λ x. Keeps k g.A.Link.Link.shown g.A.Acceptor.standing g.A.Acceptor.faults g.A.Acceptor.ends x
    (view c.in-Ok.ticket.promise.job.value.seat) c.join-joined.ensures.joined.ran) started.task_is keeps in
    let aids = subst (λ a. Aids a c.join-joined.result.aid.seat) started.aid_is c.join-joined.ensures.aids in
    let some_room =
    some_last c.args.lanes.now.items c.pop.new.self.items c.in-Some.lane c.args.lanes.now.len
    (view c.args.seat.now) c.args.lanes.now.ok.0 c.in-Some.ensures.items c.requires.room in
    subst (λ o. LanesServed {A = g.row.A.Denot}
    {L = g.row.A-Link.Denot} k g.A.Link.Link.shown g.A.Acceptor.standing g.A.Acceptor.faults g.A.Acceptor.ends c.args.lanes.now.items c.push_reserved.new.self.items o
    (view c.args.seat.now) (view c.join_aid.new.seat)) (sym c.with_door.ensures)
    (lanes_aided k g.A.Link.Link.shown g.A.Acceptor.standing g.A.Acceptor.faults g.A.Acceptor.ends (view c.args.seat.now) (view c.split_aid-aid.new.seat)
    (view c.join-joined.new.seat) (view c.join_aid.new.seat) given some_room c.args.lanes.now.items c.push_reserved.new.self.items _
    (lanes_more k g.A.Link.Link.shown g.A.Acceptor.standing g.A.Acceptor.faults g.A.Acceptor.ends c.in-Ok.ticket.promise.job.value.task c.in-Some.lane c.args.lanes.now.items
    c.pop.new.self.items c.serve_lanes-outcome.new.lanes.items c.push_reserved.new.self.items (view c.split_aid-aid.new.seat) (view c.start.new.seat)
    (view c.serve_lanes-outcome.new.seat) (view c.join-joined.new.seat) c.serve_lanes-outcome.result c.in-Ok.ensures.kept c.in-Ok.ensures.taken
    c.in-Some.ensures.items
    (c.serve_lanes-outcome.ensures.served k (c.in-Ok.ensures.kept.given ∙ (split.given ∙ given)))
    (view c.in-Ok.ticket.promise.job.value.seat) started.room c.join-joined.result.door c.join-joined.result.refused c.join-joined.result.end
    c.join-joined.ensures.joined kept c.door_back.result c.door_back.ensures c.push_reserved.ensures.items)
    c.split_aid-aid.result.seat c.join-joined.result.aid.seat c.split_aid-aid.ensures.split aids c.join_aid.ensures.joined)

pub returns-in-Err-clause-served : goal.returns-in-Err-clause-served
returns-in-Err-clause-served g t c = λ k given.
    let back = subst (λ a. AidJoined (view c.start.new.seat) a.seat (view c.join_aid-in-Err.new.seat)) c.in-Err.ensures.aid c.join_aid-in-Err.ensures.joined in
    let some_room =
    some_last c.args.lanes.now.items c.pop.new.self.items c.in-Some.lane c.args.lanes.now.len
    (view c.args.seat.now) c.args.lanes.now.ok.0 c.in-Some.ensures.items c.requires.room in
    let again =
    rejoined (view c.args.seat.now) (view c.split_aid-aid.new.seat) (view c.start.new.seat)
    (view c.join_aid-in-Err.new.seat) c.in-Err.ensures.kept c.in-Err.ensures.same some_room c.split_aid-aid.result.seat c.split_aid-aid.ensures.split back in
    subst (λ o. LanesServed {A = g.row.A.Denot}
    {L = g.row.A-Link.Denot} k g.A.Link.Link.shown g.A.Acceptor.standing g.A.Acceptor.faults g.A.Acceptor.ends c.args.lanes.now.items c.push_reserved-in-Err.new.self.items o
    (view c.args.seat.now) (view c.shut_down-lost.new.seat)) (sym c.short_of.ensures)
    (short_lanes k g.A.Link.Link.shown g.A.Acceptor.standing g.A.Acceptor.faults g.A.Acceptor.ends (view c.args.seat.now) (view c.join_aid-in-Err.new.seat)
    (view c.shut_down-lost.new.seat) given again.0 again.1
    (c.shut_down-lost.ensures.same k (again.0.given ∙ given))
    (begun_holds g.A.Link.Link.shown g.A.Acceptor.standing g.A.Acceptor.faults g.A.Acceptor.ends k (view c.args.seat.now) c.requires.begun) c.in-Err.unstarted.want c.shut_down-lost.result c.shut_down-lost.ensures.said
    c.args.lanes.now.items c.push_reserved-in-Err.new.self.items
    (c.push_reserved-in-Err.ensures.items
    ∙ (ap (λ d. c.pop.new.self.items ++ d ∷ [])
    (some_same c.in-Err.unstarted.task (Lane c.in-Some.lane) c.door_in.result c.in-Some.lane c.in-Err.ensures.back c.door_in.ensures refl)
    ∙ sym c.in-Some.ensures.items)))
