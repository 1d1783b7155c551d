-- What clauses say of a lock and its seats.
use Rattle.std.specs.Prelude.{◌≡◌, Option, None, [], ◌∷◌}
pub use Rattle.atomic_table.specs.declared.shared.Seat.{Seat}
use Rattle.seat_lock.specs.declared.lock.SeatLock.{SeatLock}
use Rattle.seat_lock.specs.declared.view.Stage.TheVariants.{Idle, Turn}
use Rattle.seat_lock.specs.declared.view.View.{View}

module _ {T G E : Type 0} where
  -- what the seat knows
  abbrev pub view : Seat (Option T) (View G E) → View G E
  view s = s.me.0

  -- it is the same seat of the same lock
  abbrev pub IsSame : Seat (Option T) (View G E) → Seat (Option T) (View G E) → Type 0
  IsSame old new = (new.table_id ≡ old.table_id) × (new.id ≡ old.id)

  -- it is that seat, and it knows and holds what it did
  abbrev pub IsUnchanged : Seat (Option T) (View G E) → Seat (Option T) (View G E) → Type 0
  IsUnchanged old new = (new.table_id ≡ old.table_id) × (new.id ≡ old.id) × (new.me ≡ old.me)

  -- the seat holds nothing
  abbrev pub IsFree : Seat (Option T) (View G E) → Type 0
  IsFree s = (s.me.0.stage ≡ Idle) × (s.me.1 ≡ [])

  -- the seat took the value and hasn't put it back
  abbrev pub IsTaker : Seat (Option T) (View G E) → Type 0
  IsTaker s = (s.me.0.stage ≡ Turn) × (s.me.1 ≡ (0, None) ∷ [])

  -- it is a seat of this lock
  abbrev pub IsSeatOf : SeatLock T G E → Seat (Option T) (View G E) → Type 0
  IsSeatOf lock s = s.table_id ≡ lock.table.shared.table_id
