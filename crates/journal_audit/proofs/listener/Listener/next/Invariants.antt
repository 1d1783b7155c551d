use Rattle.std.proofs.Common.{◌≡◌, length, List}
use Rattle.session_laws.specs.Hearing.{Heard, Stop}
use Rattle.journal_audit.specs.Listening.{HearsRest}
use Rattle.journal_audit.proofs.listener.Listener.next.Given as goal

abbrev pub invariant-loop-have : goal.invariant-loop-have
invariant-loop-have l =
    ((more : List Heard) (stop : Stop) → HearsRest l.self more stop → HearsRest l.fn.self more stop) × (l.self.fits ≡ l.fn.self.fits)

abbrev pub decreases-loop-have : goal.decreases-loop-have
decreases-loop-have l = length l.self.rest
