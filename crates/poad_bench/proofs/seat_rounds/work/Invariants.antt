use Rattle.std.specs.Arc.{arc_value}
use Rattle.seat_lock.specs.Seats.{IsFree, IsSeatOf}
use Rattle.poad_bench.proofs.seat_rounds.work.Given as goal

-- between two rounds the seat holds nothing
abbrev pub invariant-loop : goal.invariant-loop
invariant-loop g l = IsSeatOf (arc_value l.lock) l.seat × IsFree l.seat
