use Rattle.std.proofs.Common.{◌+◌, ◌≤◌}
use Rattle.std.specs.Arc.{arc_value}
use Rattle.seat_lock.specs.Seats.{view}
use Rattle.poa_shared.specs.Seats.{IsIdle}
use Rattle.poa_shared_tests.proofs.playing.jobs_of.Given as goal

-- each seat that was split off took one from the room
abbrev pub invariant-loop-k : goal.invariant-loop-k
invariant-loop-k l = IsIdle (arc_value l.shared) l.seat × (1024 ≤ (view l.seat).room + l.k)
