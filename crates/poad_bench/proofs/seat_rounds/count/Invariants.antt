use Rattle.std.proofs.Common.{◌≡◌, ◌+◌}
use Rattle.std.specs.Arc.{arc_value}
use Rattle.seat_lock.specs.Seats.{view, IsFree, IsSeatOf}
use Rattle.poad_bench.proofs.seat_rounds.count.Given as goal

-- each seat that was split off took one from the room
abbrev pub invariant-loop : goal.invariant-loop
invariant-loop g l = IsSeatOf (arc_value l.lock) l.seat × IsFree l.seat × ((view l.seat).room + l.counter ≡ 1024)
