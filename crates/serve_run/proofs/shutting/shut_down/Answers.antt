use Rattle.seat_lock.specs.Seats.{view}
use Rattle.serve_run.proofs.shutting.shut_down.Goals as goal

pub arrive-arrived-requires-clause-conn : goal.arrive-arrived-requires-clause-conn
arrive-arrived-requires-clause-conn g c = c.phase-phase.ensures.holds 0 c.requires.conn

pub returns-clause-said : goal.returns-clause-said
returns-clause-said g c = λ _. record {
  between = view c.phase-phase.new.seat;
  looked = λ k given. (let event = c.phase-phase.ensures.phase k given in (event.0, event.1, event.2.0));
  answer = c.arrive-arrived.result;
  arrived = c.arrive-arrived.ensures.arrived;
}
