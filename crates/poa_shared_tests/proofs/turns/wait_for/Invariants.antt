use Rattle.std.proofs.Common.{ℕ}
use Rattle.seat_lock.specs.Seats.{view, IsFree, IsSeatOf}
use Rattle.poa_shared_tests.specs.Notes.{IsWriter}
use Rattle.poa_shared_tests.proofs.turns.wait_for.Given as goal

abbrev pub invariant-loop : goal.invariant-loop
invariant-loop g l = record {
  ends : (goal.iterator-loop g).can_next l.iterator' × (goal.iterator-loop g).is_finite l.iterator';
  free : IsSeatOf l.lock l.seat × IsFree l.seat;
  writer : (w : ℕ) → IsWriter (view l.initial.seat) w → IsWriter (view l.seat) w;
}
