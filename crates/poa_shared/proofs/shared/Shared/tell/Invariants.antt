use Rattle.seat_lock.specs.Seats.{IsUnchanged}
use Rattle.poa_shared.proofs.shared.Shared.tell.Given as goal

abbrev pub invariant-loop-slot : goal.invariant-loop-slot
invariant-loop-slot g l = IsUnchanged l.fn.seat l.seat
