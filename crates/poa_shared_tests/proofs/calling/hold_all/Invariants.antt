use Rattle.seat_lock.specs.Seats.{view}
use Rattle.poa_shared.specs.Seats.{IsIdle}
use Rattle.poa_shared.specs.Seen.{HoldsConnection}
use Rattle.poa_shared_tests.proofs.calling.hold_all.Given as goal

abbrev pub invariant-loop-number : goal.invariant-loop-number
invariant-loop-number g l = IsIdle l.shared l.seat × HoldsConnection (view l.seat) l.conn
