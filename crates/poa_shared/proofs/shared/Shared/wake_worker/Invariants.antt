use Rattle.seat_lock.specs.Seats.{IsUnchanged}
use Rattle.poa_shared.proofs.shared.Shared.wake_worker.Given as goal

abbrev pub invariant-loop-worker : goal.invariant-loop-worker
invariant-loop-worker l = IsUnchanged l.fn.seat l.seat
