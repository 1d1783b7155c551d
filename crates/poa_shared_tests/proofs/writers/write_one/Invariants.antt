use Rattle.std.proofs.Common.{◌≡◌, ◌++◌}
use Rattle.seat_lock.specs.Seats.{view, IsFree, IsSeatOf}
use Rattle.poa_shared_tests.specs.Notes.{IsWriter}
use Rattle.poa_shared_tests.proofs.writers.write_one.Given as goal

-- the positions kept are those that the seat made here
abbrev pub invariant-loop-number : goal.invariant-loop-number
invariant-loop-number g l = record {
  free : IsSeatOf l.lock l.seat × IsFree l.seat;
  room : (view l.seat).room ≡ (view l.fn.seat).room;
  writer : IsWriter (view l.seat) l.writer;
  made : (view l.seat).mine ≡ (view l.fn.seat).mine ++ l.positions.items;
}
