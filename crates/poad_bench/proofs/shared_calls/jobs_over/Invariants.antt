use Rattle.std.proofs.Common.{◌+◌, ◌≤◌}
use Rattle.std.specs.Arc.{arc_value}
use Rattle.seat_lock.specs.Seats.{view}
use Rattle.poa_shared.specs.Seats.{IsIdle}
use Rattle.poad_bench.proofs.shared_calls.jobs_over.Given as goal

-- each caller took two from the room, one for each of its seats
abbrev pub invariant-loop-caller : goal.invariant-loop-caller
invariant-loop-caller l = IsIdle (arc_value l.shared) l.seat × (1024 ≤ (view l.seat).room + (l.caller + l.caller))
