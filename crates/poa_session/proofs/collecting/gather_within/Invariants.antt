use Rattle.std.proofs.Common.{◌≡◌, Some}
use Rattle.seat_lock.specs.Seats.{view}
use Rattle.poa_history.specs.declared.Givens.{Givens}
use Rattle.poa_shared.specs.Seats.{IsIdle}
use Rattle.poa_shared.specs.Seen.{HoldsConnection}
use Rattle.poa_session.specs.Giving.{AreGiven}
use Rattle.poa_session.proofs.Collects.{GivesOn}
use Rattle.poa_session.proofs.collecting.gather_within.Given as goal

abbrev pub invariant-loop : goal.invariant-loop
invariant-loop g l = record {
  ends : (goal.iterator-loop g).can_next l.iterator' × (goal.iterator-loop g).is_finite l.iterator';
  seat : IsIdle l.shared l.seat;
  conn : HoldsConnection (view l.seat) l.conn;
  given : AreGiven l.initial.given.items → AreGiven l.given.items;
  gives : (givens : Givens) → (view l.initial.seat).givens ≡ Some givens
      → GivesOn givens l.conn (view l.initial.seat) (view l.seat) l.initial.given.items l.given.items;
}
