-- What one who makes a worker's turns by a seat of his own did, read on that seat. A place is an index into the journal.
use Rattle.std.specs.Prelude.{◌≡◌, ℕ, List, [], ◌∷◌, ◌++◌, length, reverse, Option, Some, None, IfSome}
use Rattle.poa_base.specs.declared.Entry.{Entry}
use Rattle.poa_base.specs.declared.Entry.TheVariants.{Abandon}
use Rattle.poa_shared.specs.Seats.{IsIdle}
use Rattle.poa_shared.specs.declared.shared.Shared.{Shared}
use Rattle.poa_shared.specs.Making.{Makes}
use Rattle.poa_history.specs.Life.{Life}
use Rattle.poa_history.specs.Owners.{worker_of}
use Rattle.poa_history.specs.declared.givens.Givens.{Givens}
use Rattle.poa_history.specs.Phases.{phase_of}
use Rattle.poa_history.specs.declared.phase.Phase.TheVariants.{Running}
use Rattle.seat_lock.specs.Histories.{IsPrefix}
use Rattle.seat_lock.specs.Seats.{Seat, view}
use Rattle.seat_lock.specs.declared.view.View.{View}

-- at this place stands an entry of the first worker that isn't its Abandon; and the run was running before it
pub record IsHelpAt (log : List Entry) (place : ℕ) : Type 0 where
  pub before : List Entry
  pub entry : Entry
  pub stands : IsPrefix (before ++ entry ∷ []) log
  pub place_is : place ≡ length before
  pub own : worker_of entry ≡ Some 0
  pub going : entry ≡ Abandon 0 → ⊥
  pub running : phase_of (reverse before) ≡ Running

-- between two views of a seat turns of the first worker were made, each while the run was running, and nothing else
abbrev pub Helps : View Givens Entry → View Givens Entry → Type 0
Helps = Makes (λ log made place. IsHelpAt log place)

abbrev pub SeatOf : Type 0
SeatOf = Seat (Option Life) (View Givens Entry)

-- the seat, where there is one, is one of this shared core, and holds nothing
abbrev pub IsReady : Shared → Option SeatOf → Type 0
IsReady shared seat = IfSome seat (IsIdle shared)

-- by the seat, where there is one, turns of the first worker were made, and nothing else
abbrev pub Aids : Option SeatOf → Option SeatOf → Type 0
Aids (Some old) (Some new) = (g : Givens) → (view old).givens ≡ Some g → Helps (view old) (view new)
Aids None None = Unit {0}
Aids old new = ⊥
