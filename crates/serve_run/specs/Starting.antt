-- How a piece is started and joined.
use Rattle.std.specs.Prelude.{◌≡◌, ℕ, [], Option, Some, None}
use Rattle.std.specs.Arc.{arc_value}
use Rattle.outside.specs.Accepting.{Standing}
use Rattle.outside.specs.Link.{Shown}
use Rattle.poa_base.specs.declared.Entry.{Entry}
use Rattle.poa_shared.specs.declared.shared.Shared.{Shared}
use Rattle.poa_shared.specs.Helping.{SeatOf}
use Rattle.poa_history.specs.declared.givens.Givens.{Givens}
use Rattle.poa_history.specs.declared.full.Full.{Full}
use Rattle.seat_lock.specs.declared.view.View.{View}
use Rattle.seat_lock.specs.Steps.{Unites}
use Rattle.seat_lock.specs.Views.{joined_view}
use Rattle.serve_run.specs.Promises.{Keeps}
use Rattle.serve_run.specs.declared.piece.Piece.{Piece}
use Rattle.serve_run.specs.declared.ran.PieceEnd.{PieceEnd}
use Rattle.serve_run.specs.declared.ran.Ran.{Ran}
use Rattle.serve_run.specs.declared.task.Task.{Task}
use Rattle.serve_run.specs.declared.task.Task.TheVariants.{Lane, Admin, Worker}

-- the seat knows what it knew, and made what it made
pub record IsKept (old new : View Givens Entry) : Type 0 where
  pub seen : new.seen ≡ old.seen
  pub mine : new.mine ≡ old.mine
  pub given : new.givens ≡ old.givens
  pub base : new.base ≡ old.base

-- a piece of this task, on a new seat of the shared core, and with this aid
pub record IsStarted {R A G : Type 0} (shared : Shared) (task : Task A G) (aid : Option SeatOf) (v : View Givens Entry)
    (piece : Piece R A G) : Type 0 where
  pub shared_is : arc_value piece.shared ≡ shared
  pub task_is : piece.task ≡ task
  pub aid_is : piece.aid.seat ≡ aid
  pub given : piece.seat.me.0.givens ≡ v.givens
  pub base : piece.seat.me.0.base ≡ v.base
  pub room : piece.seat.me.0.room ≡ 0
  pub fresh : piece.seat.me.0.mine ≡ []

-- the door of a task
abbrev pub task_door : {A G : Type 0} → Task A G → Option A
task_door (Lane door) = Some door
task_door (Admin door) = Some door
task_door (Worker worker gate) = None

abbrev pub HasDoor : {A G : Type 0} → Task A G → Type 0
HasDoor (Lane door) = Unit {0}
HasDoor (Admin door) = Unit {0}
HasDoor (Worker worker gate) = ⊥

-- what the run was given, how long its first history was, and how many seats can be split are what they were
pub record IsSameSeat (old new : View Givens Entry) : Type 0 where
  pub given : new.givens ≡ old.givens
  pub base : new.base ≡ old.base
  pub room : new.room ≡ old.room

-- a piece of the task, with the seat that was so when it was started, is joined, with what it gave back
pub record IsJoined {A G L : Type 0} (shown : L → Shown) (standing : A → Option (Standing L)) (faults ends : A → ℕ) (task : Task A G)
    (first old new : View Givens Entry) (door : Option A) (refused : Option Full) (end : PieceEnd) : Type 0 where
  pub ran : Ran A
  pub door_is : door ≡ ran.door
  pub refused_is : refused ≡ ran.refused
  pub end_is : end ≡ ran.end
  pub joined : new ≡ joined_view old ran.seat.me.0
  pub unites : Unites old ran.seat.me.0 new
  pub keeps : (g : Givens) → first.givens ≡ Some g → Keeps g shown standing faults ends task first ran
