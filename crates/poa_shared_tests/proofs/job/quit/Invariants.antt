use Rattle.poa_shared.specs.Seats.{IsIdle}
use Rattle.poa_shared_tests.proofs.job.quit.Given as goal

abbrev pub invariant-loop : goal.invariant-loop
invariant-loop g l = IsIdle l.shared l.seat
