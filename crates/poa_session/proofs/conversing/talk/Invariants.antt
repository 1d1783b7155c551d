use Rattle.std.proofs.Common.{◌≡◌, ◌≤◌, ◌<◌, Some, length}
use Rattle.seat_lock.specs.Seats.{view}
use Rattle.poa_history.specs.declared.Givens.{Givens}
use Rattle.poa_shared.specs.Seats.{IsIdle}
use Rattle.poa_shared.specs.Seen.{HoldsConnection}
use Rattle.poa_shared.specs.Helping.{Aids, IsReady}
use Rattle.poa_session.proofs.Talking.{Sits}
use Rattle.poa_session.proofs.conversing.talk.Given as goal

abbrev pub invariant-loop : goal.invariant-loop
invariant-loop g l = record {
  ends : (goal.iterator-loop g).can_next l.iterator' × (goal.iterator-loop g).is_finite l.iterator';
  seat : IsIdle l.conn.shared.now l.seat;
  ready : IsReady l.conn.shared.now l.aid.seat;
  aids : Aids l.initial.aid.seat l.aid.seat;
  conn : HoldsConnection (view l.seat) l.conn.number;
  sits : (givens : Givens) → (view l.initial.seat).givens ≡ Some givens
      → Sits givens l.conn.peer l.conn.number (view l.initial.seat) (g.L.Link.shown l.initial.link) (view l.seat) (g.L.Link.shown l.link) l.input;
  writes : (g.L.Link.shown l.initial.link).write_faults ≤ (g.L.Link.shown l.link).write_faults;
  room : 0 < length l.buffers.piece.items;
}
