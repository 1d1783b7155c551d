use Rattle.std.proofs.Common.{◌≡◌, Some}
use Rattle.poa_shared.specs.Seats.{IsIdle}
use Rattle.poa_history.specs.declared.givens.Givens.{Givens}
use Rattle.seat_lock.specs.Seats.{view}
use Rattle.serve_run.specs.Starting.{IsSameSeat}
use Rattle.serve_run.proofs.shutting.give_up.Given as goal

abbrev pub invariant-loop-worker : goal.invariant-loop-worker
invariant-loop-worker G l = record {
  seat : IsIdle l.shared l.seat;
  same : (g : Givens) → (view l.fn.seat).givens ≡ Some g → IsSameSeat (view l.fn.seat) (view l.seat);
}
