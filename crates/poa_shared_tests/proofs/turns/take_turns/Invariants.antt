use Rattle.seat_lock.specs.Seats.{view, IsFree, IsSeatOf}
use Rattle.poa_shared_tests.specs.Notes.{IsWriter}
use Rattle.poa_shared_tests.proofs.turns.take_turns.Given as goal

abbrev pub invariant-loop-turn : goal.invariant-loop-turn
invariant-loop-turn g l = record {
  free : IsSeatOf l.lock l.seat × IsFree l.seat;
  writer : IsWriter (view l.seat) l.writer;
}
