use Rattle.std.specs.Prelude.{◌≡◌, Some}
use Rattle.poa_history.specs.declared.givens.Givens.{Givens}
use Rattle.poa_shared.specs.Seats.{IsIdle}
use Rattle.poa_shared.specs.Pauses.{MakesTurns}
use Rattle.seat_lock.specs.Seats.{view}
use Rattle.poa_shared.proofs.working.work.Given as goal

abbrev pub invariant-loop : goal.invariant-loop
invariant-loop G l = record {
  ends : (goal.iterator-loop G).can_next l.iterator' × (goal.iterator-loop G).is_finite l.iterator';
  seat : IsIdle l.shared l.seat;
  so_far : (g : Givens) → (view l.fn.seat).givens ≡ Some g → MakesTurns l.worker (view l.fn.seat) (view l.seat);
}
