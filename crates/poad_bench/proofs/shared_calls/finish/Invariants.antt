use Rattle.poa_shared.specs.Seats.{IsIdle}
use Rattle.poad_bench.proofs.shared_calls.finish.Given as goal

abbrev pub invariant-loop : goal.invariant-loop
invariant-loop g l = record {
  ends : (goal.iterator-loop g).can_next l.iterator' × (goal.iterator-loop g).is_finite l.iterator';
  aid : IsIdle l.shared l.aid;
}
