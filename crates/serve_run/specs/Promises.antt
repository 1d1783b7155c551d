-- What a piece needs, and what it promises.
use Rattle.std.specs.Prelude.{◌≡◌, ℕ, ◌<◌, [], Option, None}
use Rattle.outside.specs.Accepting.{Standing}
use Rattle.outside.specs.Link.{Shown}
use Rattle.poa_base.specs.declared.Entry.{Entry}
use Rattle.poa_shared.specs.Seats.{IsIdle}
use Rattle.poa_shared.specs.declared.shared.Shared.{Shared}
use Rattle.poa_shared.specs.Helping.{IsReady, SeatOf}
use Rattle.poa_shared.specs.Worked.{Worked as WorkedAs}
use Rattle.poa_shared.specs.declared.work_end.WorkEnd.{WorkEnd}
use Rattle.poa_history.specs.declared.givens.Givens.{Givens}
use Rattle.seat_lock.specs.declared.view.View.{View}
use Rattle.session_laws.specs.declared.peer.Peer.TheVariants.{Client, Administrator}
use Rattle.serve_run.specs.declared.ran.PieceEnd.TheVariants.{Worked}
use Rattle.serve_run.specs.declared.ran.Ran.{Ran}
use Rattle.serve_run.specs.declared.task.Task.{Task}
use Rattle.serve_run.specs.declared.task.Task.TheVariants.{Lane, Admin, Worker}
use Rattle.serve_run.specs.Doors.{DoorKept}

-- the seats, of which the second may be lacking, are of this shared core, and hold nothing
abbrev pub AreIdle : Shared → SeatOf → Option SeatOf → Type 0
AreIdle shared seat aid = IsIdle shared seat × IsReady shared aid

-- a worker's number is below 16
abbrev pub IsNumbered : {A G : Type 0} → Task A G → Type 0
IsNumbered (Lane door) = Unit {0}
IsNumbered (Admin door) = Unit {0}
IsNumbered (Worker worker gate) = worker < 16

-- the seat is a new one, which made nothing and of which none can be split
pub record IsFresh {A G : Type 0} (task : Task A G) (v : View Givens Entry) : Type 0 where
  pub room : v.room ≡ 0
  pub mine : v.mine ≡ []
  pub numbered : IsNumbered task

module _ {A G L : Type 0} (g : Givens) (shown : L → Shown) (standing : A → Option (Standing L)) (faults ends : A → ℕ) where
  -- a door was served to its end, or a worker worked, on the seat that was so when the piece was made
  abbrev pub Keeps : Task A G → View Givens Entry → Ran A → Type 0
  Keeps (Lane door) old ran = DoorKept g Client shown standing faults ends door old ran
  Keeps (Admin door) old ran = DoorKept g Administrator shown standing faults ends door old ran
  Keeps (Worker worker gate) old ran = (ran.door ≡ None) × (ran.refused ≡ None)
      × ((end : WorkEnd) × (ran.end ≡ Worked end) × WorkedAs g worker old ran.seat.me.0 end)
