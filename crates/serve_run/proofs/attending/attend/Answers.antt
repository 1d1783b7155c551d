use Rattle.std.proofs.Common.{◌∙◌, sym}
use Rattle.seat_lock.specs.Seats.{view}
use Rattle.poa_shared.proofs.Helped.{aids_none, aids_through}
use Rattle.serve_run.proofs.Rounds.{rounds_end, rounds_looked, rounds_more, rounds_none, rounds_stop}
use Rattle.serve_run.proofs.attending.attend.Goals as goal

pub loop-init : goal.loop-init
loop-init g c = record {
  ends = (tt, tt);
  seat = c.requires.seat;
  ready = c.requires.aid;
  aids = aids_none c.args.aid.now.seat;
  rounds =
      λ k given. rounds_none k c.args.reception.now.peer g.A.Link.Link.shown g.A.Acceptor.standing g.A.Acceptor.faults g.A.Acceptor.ends
      (view c.args.seat.now) c.args.door.now c.requires.fresh;
}

pub returns-in-Some-ending-clause-served : goal.returns-in-Some-ending-clause-served
returns-in-Some-ending-clause-served g c = λ k given.
    rounds_end k c.args.reception.now.peer g.A.Link.Link.shown g.A.Acceptor.standing g.A.Acceptor.faults g.A.Acceptor.ends (view c.args.seat.now) c.args.door.now (view c.loop.seat)
    (view c.receive-received.new.seat) c.loop.door c.receive-received.new.door c.loop.refused c.noted-refused.result c.receive-received.result
    c.in-Some-ending.end
    (c.loop.invariant.rounds k given)
    (λ visits so_far. c.receive-received.ensures.received k (view c.args.seat.now) c.args.door.now visits given so_far)
    c.noted-refused.ensures (sym c.ending.ensures ∙ c.in-Some-ending.is)

pub returns-in-Some-stop_in-clause-served : goal.returns-in-Some-stop_in-clause-served
returns-in-Some-stop_in-clause-served g c = λ k given.
    rounds_stop k c.args.reception.now.peer g.A.Link.Link.shown g.A.Acceptor.standing g.A.Acceptor.faults g.A.Acceptor.ends (view c.args.seat.now) c.args.door.now
    (view c.receive-received.new.seat) (view c.phase-phase.new.seat) c.receive-received.new.door c.noted-refused.result
    (rounds_more k c.args.reception.now.peer g.A.Link.Link.shown g.A.Acceptor.standing g.A.Acceptor.faults g.A.Acceptor.ends (view c.args.seat.now) c.args.door.now (view c.loop.seat)
    (view c.receive-received.new.seat) c.loop.door c.receive-received.new.door c.loop.refused c.noted-refused.result c.receive-received.result
    (c.loop.invariant.rounds k given)
    (λ visits so_far. c.receive-received.ensures.received k (view c.args.seat.now) c.args.door.now visits given so_far)
    c.noted-refused.ensures (sym c.ending.ensures ∙ c.in_default.is))
    given c.phase-phase.result c.phase-phase.ensures.phase c.in-Some-stop_in.end (sym c.stop_in.ensures ∙ c.in-Some-stop_in.is)

pub loop-preserved : goal.loop-preserved
loop-preserved g c = record {
  ends = (tt, tt);
  seat = c.phase-phase.ensures.seat;
  ready = c.receive-received.ensures.ready;
  aids = aids_through c.args.aid.now.seat c.loop.aid.seat c.receive-received.new.aid.seat c.loop.invariant.aids c.receive-received.ensures.aids;
  rounds = λ k given.
      rounds_looked k c.args.reception.now.peer g.A.Link.Link.shown g.A.Acceptor.standing g.A.Acceptor.faults g.A.Acceptor.ends (view c.args.seat.now) c.args.door.now
      (view c.receive-received.new.seat) (view c.phase-phase.new.seat) c.receive-received.new.door c.noted-refused.result
      (rounds_more k c.args.reception.now.peer g.A.Link.Link.shown g.A.Acceptor.standing g.A.Acceptor.faults g.A.Acceptor.ends (view c.args.seat.now) c.args.door.now (view c.loop.seat)
      (view c.receive-received.new.seat) c.loop.door c.receive-received.new.door c.loop.refused c.noted-refused.result c.receive-received.result
      (c.loop.invariant.rounds k given)
      (λ visits so_far. c.receive-received.ensures.received k (view c.args.seat.now) c.args.door.now visits given so_far)
      c.noted-refused.ensures (sym c.ending.ensures ∙ c.in_default.is))
      given c.phase-phase.result c.phase-phase.ensures.phase;
}

pub returns-in-Some-ending-clause-aids : goal.returns-in-Some-ending-clause-aids
returns-in-Some-ending-clause-aids g c =
    aids_through c.args.aid.now.seat c.loop.aid.seat c.receive-received.new.aid.seat c.loop.invariant.aids c.receive-received.ensures.aids

pub returns-in-Some-stop_in-clause-aids : goal.returns-in-Some-stop_in-clause-aids
returns-in-Some-stop_in-clause-aids g c =
    aids_through c.args.aid.now.seat c.loop.aid.seat c.receive-received.new.aid.seat c.loop.invariant.aids c.receive-received.ensures.aids
