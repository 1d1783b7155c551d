use Rattle.poa_shared.specs.Seats.{IsIdle}
use Rattle.poad_cases.proofs.worked_link.make_turns.Given as goal

-- the seat holds nothing between two turns
abbrev pub invariant-loop : goal.invariant-loop
invariant-loop g l = record {
  ends : (goal.iterator-loop g).can_next l.iterator' × (goal.iterator-loop g).is_finite l.iterator';
  seat : IsIdle l.shared l.seat;
}
