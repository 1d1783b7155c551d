use Rattle.std.proofs.Common.{◌≡◌, ◌≤◌, Some}
use Rattle.seat_lock.specs.Seats.{view}
use Rattle.poa_history.specs.declared.Givens.{Givens}
use Rattle.poa_shared.specs.Seats.{IsIdle}
use Rattle.poa_shared.specs.Seen.{HoldsConnection}
use Rattle.poa_session.proofs.Owed.{PaysOn}
use Rattle.poa_session.proofs.paying.pay.Given as goal

abbrev pub invariant-loop : goal.invariant-loop
invariant-loop g l = record {
  ends : (goal.iterator-loop g).can_next l.iterator' × (goal.iterator-loop g).is_finite l.iterator';
  seat : IsIdle l.shared l.seat;
  conn : HoldsConnection (view l.seat) l.conn;
  pays : (givens : Givens) → (view l.initial.seat).givens ≡ Some givens
      → PaysOn givens l.conn (view l.initial.seat) (g.L.Link.shown l.initial.link) (view l.seat) (g.L.Link.shown l.link);
  counts : (g.L.Link.shown l.initial.link).write_faults ≤ (g.L.Link.shown l.link).write_faults;
}
