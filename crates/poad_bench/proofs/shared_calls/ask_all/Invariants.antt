use Rattle.seat_lock.specs.Seats.{view}
use Rattle.poa_shared.specs.Seats.{IsIdle}
use Rattle.poa_shared.specs.Seen.{HoldsConnection}
use Rattle.poad_bench.proofs.shared_calls.ask_all.Given as goal

abbrev pub invariant-loop : goal.invariant-loop
invariant-loop g l = IsIdle l.shared l.seat × IsIdle l.shared l.aid × HoldsConnection (view l.seat) l.conn
