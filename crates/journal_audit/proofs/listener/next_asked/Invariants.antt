use Rattle.std.proofs.Common.{◌≤◌}
use Rattle.session_laws.specs.HearingPieces.{IsLimited, OfEar, StillHears, reach_of, unread_of}
use Rattle.journal_audit.proofs.listener.next_asked.Given as goal

abbrev pub invariant-loop-told : goal.invariant-loop-told
invariant-loop-told l = StillHears (OfEar l.fn.ear) (OfEar l.ear) × IsLimited l.ear × (reach_of l.ear ≤ reach_of l.fn.ear)

abbrev pub decreases-loop-told : goal.decreases-loop-told
decreases-loop-told l = unread_of l.ear
