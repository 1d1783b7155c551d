-- The doors that were served and the workers that worked in a run.
use Rattle.std.specs.Prelude.{◌≡◌, ◌≢◌, ℕ, ◌<◌, List, [], ◌∷◌, ◌++◌, length, reverse, Option, Some}
use mathlib.Core.Option.{some}
use lib.ListN.{get_elem?}
use Rattle.outside.specs.Accepting.{Standing}
use Rattle.outside.specs.Cause.{Rose}
use Rattle.outside.specs.Link.{Shown}
use Rattle.outside.specs.Told.{IfTold}
use Rattle.poa_base.specs.declared.Entry.{Entry}
use Rattle.poa_history.specs.declared.givens.Givens.{Givens}
use Rattle.poa_history.specs.Owners.{worker_of}
use Rattle.history_laws.specs.Closing.{IsClosed}
use Rattle.seat_lock.specs.declared.view.View.{View}
use Rattle.seat_lock.specs.Histories.{In, IsPrefix}
use Rattle.session_laws.specs.declared.peer.Peer.{Peer}
use Rattle.serve_run.specs.declared.ran.PieceEnd.{PieceEnd}
use Rattle.serve_run.specs.declared.ran.PieceEnd.TheVariants.{DoorFailed}
use Rattle.serve_run.specs.Doors.{DoorHasCause}
use Rattle.serve_run.specs.Visits.{Visit, conns_of, EachVisited, Passes}

-- a door as it was handed in and as it came back, the links that it gave, and how its serving ended
pub record Tour (A L : Type 0) : Type 0 where
  pub peer : Peer
  pub closed : A
  pub served : A
  pub visits : List (Visit L)
  pub end : PieceEnd
  -- what was seen of the journal at its end
  pub stood : List Entry

-- the connections that entered by doors
abbrev pub conns_in : {A L : Type 0} → List (Tour A L) → List ℕ
conns_in [] = []
conns_in (t ∷ more) = conns_of t.visits ++ conns_in more

-- a worker, and what it had seen when it closed
pub record Shift : Type 0 where
  pub worker : ℕ
  pub stood : List Entry

abbrev pub workers_in : List Shift → List ℕ
workers_in [] = []
workers_in (s ∷ more) = s.worker ∷ workers_in more

-- the entry at this place is one of the worker
pub record IsWorkersAt (worker : ℕ) (log : List Entry) (place : ℕ) : Type 0 where
  pub entry : Entry
  pub stands : get_elem? log place ≡ some entry
  pub own : worker_of entry ≡ Some worker

-- the worker closed, and made no entry of those that the seat knows of since
pub record HasWorked (g : Givens) (s : Shift) (v : View Givens Entry) : Type 0 where
  pub later : IsPrefix s.stood v.seen
  pub quiet : (place : ℕ) → In place v.mine → IsWorkersAt s.worker v.seen place → place < length s.stood
  pub closed : IsClosed g s.worker (reverse s.stood)

abbrev pub EachWorked : Givens → List Shift → View Givens Entry → Type 0
EachWorked g [] v = Unit {0}
EachWorked g (s ∷ more) v = HasWorked g s v × EachWorked g more v

module _ {A L : Type 0} (standing : A → Option (Standing L)) (faults : A → ℕ) where
  -- the door gave its links in their order and was given each back, with its session; it counted a fault where it failed, and
  -- else none
  pub record HasPassed (t : Tour A L) : Type 0 where
    pub passes : IfTold (standing t.closed) (standing t.served) (Passes t.visits)
    pub failed : t.end ≡ DoorFailed → Rose (faults t.closed) (faults t.served)
    pub steady : t.end ≢ DoorFailed → faults t.served ≡ faults t.closed

  abbrev pub EachPassed : List (Tour A L) → Type 0
  EachPassed [] = Unit {0}
  EachPassed (t ∷ more) = HasPassed t × EachPassed more

module _ {A L : Type 0} (g : Givens) (shown : L → Shown) (standing : A → Option (Standing L)) (faults ends : A → ℕ) where
  -- the door was served to its end
  pub record HasToured (t : Tour A L) (v : View Givens Entry) : Type 0 where
    pub each : EachVisited g t.peer shown t.visits v
    pub later : IsPrefix t.stood v.seen
    pub cause : DoorHasCause standing faults ends t.end t.closed t.served (reverse t.stood)

  abbrev pub EachToured : List (Tour A L) → View Givens Entry → Type 0
  EachToured [] v = Unit {0}
  EachToured (t ∷ more) v = HasToured t v × EachToured more v
