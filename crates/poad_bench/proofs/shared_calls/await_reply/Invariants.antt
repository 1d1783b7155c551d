use Rattle.seat_lock.specs.Seats.{view}
use Rattle.poa_shared.specs.Seats.{IsIdle}
use Rattle.poa_shared.specs.Seen.{HoldsConnection}
use Rattle.poad_bench.proofs.shared_calls.await_reply.Given as goal

abbrev pub invariant-loop : goal.invariant-loop
invariant-loop g l = record {
  ends : (goal.iterator-loop g).can_next l.iterator' × (goal.iterator-loop g).is_finite l.iterator';
  seat : IsIdle l.shared l.seat;
  aid : IsIdle l.shared l.aid;
  conn : HoldsConnection (view l.seat) l.conn;
}
