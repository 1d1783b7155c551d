-- How a door is served on a seat that had made nothing.
use Rattle.std.specs.Prelude.{◌≡◌, ◌≢◌, ℕ, ◌≤◌, List, [], ◌∷◌, Option, Some, None, IfSome}
use Rattle.outside.specs.Accepting.{Standing}
use Rattle.outside.specs.Cause.{Rose}
use Rattle.outside.specs.Link.{Shown}
use Rattle.outside.specs.Told.{IfTold}
use Rattle.poa_base.specs.declared.Entry.{Entry}
use Rattle.poa_history.specs.declared.givens.Givens.{Givens}
use Rattle.poa_history.specs.Phases.{phase_of}
use Rattle.poa_history.specs.declared.phase.Phase.{Phase}
use Rattle.poa_history.specs.declared.phase.Phase.TheVariants.{Running}
use Rattle.poa_history.specs.declared.full.Full.{Full}
use Rattle.poa_shared.specs.Seen.{past}
use Rattle.seat_lock.specs.declared.view.View.{View}
use Rattle.seat_lock.specs.Histories.{IsPrefix}
use Rattle.session_laws.specs.declared.peer.Peer.{Peer}
use Rattle.serve_run.specs.declared.ran.PieceEnd.{PieceEnd}
use Rattle.serve_run.specs.declared.ran.PieceEnd.TheVariants.{DoorEnd, DoorFailed, NotRunning, Worked}
use Rattle.serve_run.specs.declared.ran.Ran.{Ran}
use Rattle.serve_run.specs.declared.received.Received.{Received}
use Rattle.serve_run.specs.declared.received.Received.TheVariants as received
use Rattle.serve_run.specs.Ledgers.{Ledger}
use Rattle.serve_run.specs.Refusals.{least_refusal}
use Rattle.serve_run.specs.Visits.{Visit, conns_of, EachVisited, Passes}

-- between two views of a seat that had made nothing it made the entries of these visits, and no others
pub record Attends {L : Type 0} (g : Givens) (peer : Peer) (shown : L → Shown) (visits : List (Visit L))
    (old new : View Givens Entry) : Type 0 where
  pub grows : IsPrefix old.seen new.seen
  pub given : new.givens ≡ old.givens
  pub base : new.base ≡ old.base
  pub room : new.room ≡ old.room
  pub ledger : Ledger (conns_of visits) [] new
  pub each : EachVisited g peer shown visits new

-- how a door came to its end
abbrev pub ending_of : Received → Option PieceEnd
ending_of received.End = Some DoorEnd
ending_of received.Failed = Some DoorFailed
ending_of other = None

-- how a door is left in a phase of the run
abbrev pub stop_of : Phase → Option PieceEnd
stop_of Running = None
stop_of phase = Some (NotRunning phase)

-- the door counted that no link is left and none will come, and where it tells its links none is left
abbrev pub HasSaidEnd : {A L : Type 0} → (A → Option (Standing L)) → (A → ℕ) → A → A → Type 0
HasSaidEnd standing ends closed door = IfSome (standing door) (λ s. s.left ≡ []) × Rose (ends closed) (ends door)

module _ {A L : Type 0} (standing : A → Option (Standing L)) (faults ends : A → ℕ) where
  -- a door ends where it said so, fails where it counted that, and is left where the run isn't running
  abbrev pub DoorHasCause : PieceEnd → A → A → List Entry → Type 0
  DoorHasCause DoorEnd closed door h = HasSaidEnd standing ends closed door × (faults door ≡ faults closed)
  DoorHasCause DoorFailed closed door h = Rose (faults closed) (faults door)
  DoorHasCause (NotRunning phase) closed door h = (phase ≡ phase_of h) × (phase ≢ Running) × (faults door ≡ faults closed)
  DoorHasCause (Worked end) closed door h = ⊥

module _ {A L : Type 0} (g : Givens) (peer : Peer) (shown : L → Shown) (standing : A → Option (Standing L)) (faults ends : A → ℕ) where
  -- so far a door was served: these links came and went, and it counted no fault
  pub record Attending (first : View Givens Entry) (closed : A) (visits : List (Visit L)) (v : View Givens Entry) (door : A) : Type 0 where
    pub attends : Attends g peer shown visits first v
    pub passes : IfTold (standing closed) (standing door) (Passes visits)
    pub steady : faults door ≡ faults closed
    pub later : ends closed ≤ ends door

  -- what comes of asking it once more
  abbrev pub AsReceived : View Givens Entry → A → List (Visit L) → Received → View Givens Entry → A → Type 0
  AsReceived first closed visits (received.Served session) v door = (x : Visit L) × (x.session ≡ session)
      × Attending first closed (x ∷ visits) v door
  AsReceived first closed visits received.Nothing v door = Attending first closed visits v door
  AsReceived first closed visits received.End v door = Attending first closed visits v door × HasSaidEnd standing ends closed door
  AsReceived first closed visits received.Failed v door =
      Attends g peer shown visits first v × IfTold (standing closed) (standing door) (Passes visits) × Rose (faults closed) (faults door)

  -- a door was served to its end
  pub record DoorServed (old new : View Givens Entry) (closed door : A) (refused : Option Full) (end : PieceEnd) : Type 0 where
    pub visits : List (Visit L)
    pub attends : Attends g peer shown visits old new
    pub passes : IfTold (standing closed) (standing door) (Passes visits)
    pub refused_is : refused ≡ least_refusal visits
    pub cause : DoorHasCause standing faults ends end closed door (past new)

  -- and is given back
  abbrev pub DoorKept : A → View Givens Entry → Ran A → Type 0
  DoorKept closed old ran = (door : A) × (ran.door ≡ Some door) × DoorServed old ran.seat.me.0 closed door ran.refused ran.end
