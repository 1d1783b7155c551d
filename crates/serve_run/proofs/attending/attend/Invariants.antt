use Rattle.std.proofs.Common.{◌≡◌, Some}
use Rattle.poa_shared.specs.Seats.{IsIdle}
use Rattle.poa_shared.specs.Helping.{Aids, IsReady}
use Rattle.poa_history.specs.declared.givens.Givens.{Givens}
use Rattle.seat_lock.specs.Seats.{view}
use Rattle.serve_run.proofs.Rounds.{Rounds}
use Rattle.serve_run.proofs.attending.attend.Given as goal

abbrev pub invariant-loop : goal.invariant-loop
invariant-loop g l = record {
  ends : (goal.iterator-loop g).can_next l.iterator' × (goal.iterator-loop g).is_finite l.iterator';
  seat : IsIdle l.reception.shared.now l.seat;
  ready : IsReady l.reception.shared.now l.aid.seat;
  aids : Aids l.fn.aid.seat l.aid.seat;
  rounds : (k : Givens) → (view l.fn.seat).givens ≡ Some k
      → Rounds {A = g.row.A.Denot} {L = g.row.A-Link.Denot} k l.reception.peer g.A.Link.Link.shown g.A.Acceptor.standing g.A.Acceptor.faults g.A.Acceptor.ends (view l.fn.seat) l.fn.door
      (view l.seat) l.door l.refused;
}
