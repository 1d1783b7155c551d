use Rattle.std.proofs.Common.{◌≡◌, ◌≢◌, ℕ, List, Some}
use Rattle.poa_base.specs.declared.SessionEnd.TheVariants as end
use Rattle.seat_lock.specs.Seats.{view}
use Rattle.poa_history.specs.declared.Givens.{Givens}
use Rattle.session_laws.specs.declared.Peer.{Peer}
use Rattle.session_laws.specs.HearingPieces.{Intake, KnowsFirst}
use Rattle.poa_shared.specs.Seats.{IsIdle}
use Rattle.poa_shared.specs.Seen.{HoldsConnection}
use Rattle.poa_session.specs.Listening.{Hears, IsNextTold}
use Rattle.poa_session.specs.declared.progress.Progress.TheVariants.{Ends}
use Rattle.poa_session.proofs.listening.listen_within.Given as goal

abbrev pub invariant-loop : goal.invariant-loop
invariant-loop g l = record {
  ends : (goal.iterator-loop g).can_next l.iterator' × (goal.iterator-loop g).is_finite l.iterator';
  seat : IsIdle l.conn.shared.now l.seat;
  conn : HoldsConnection (view l.seat) l.conn.number;
  first : (peer : Peer) (text : List ℕ) → KnowsFirst peer l.fn.input.ear text → KnowsFirst peer l.input.ear text;
  hears : (givens : Givens) → (view l.fn.seat).givens ≡ Some givens → (peer : Peer) (i : Intake) → IsNextTold i l.fn.first l.fn.input
      → Hears givens peer l.conn.number (view l.fn.seat) i (view l.seat) l.input l.progress;
  unwritten : (l.progress ≢ Ends end.WriteFault) × (l.progress ≢ Ends end.ReadFault);
}
