-- How the seat of a lane's aid is split and joined.
use Rattle.std.specs.Prelude.{◌≡◌, Option, Some, None}
use Rattle.poa_base.specs.declared.Entry.{Entry}
use Rattle.poa_shared.specs.Helping.{SeatOf}
use Rattle.poa_history.specs.declared.givens.Givens.{Givens}
use Rattle.seat_lock.specs.Seats.{view}
use Rattle.seat_lock.specs.Steps.{Unites}
use Rattle.seat_lock.specs.Views.{joined_view, left_of, right_of}
use Rattle.seat_lock.specs.declared.view.View.{View}

-- the aid's seat, where it has one, was split from the run's
abbrev pub IsSplit : View Givens Entry → Option SeatOf → View Givens Entry → Type 0
IsSplit old (Some aid) new = (new ≡ left_of old) × (view aid ≡ right_of old)
IsSplit old None new = new ≡ old

-- and is joined into it
abbrev pub AidJoined : View Givens Entry → Option SeatOf → View Givens Entry → Type 0
AidJoined old (Some aid) new = (new ≡ joined_view old (view aid)) × Unites old (view aid) new
AidJoined old None new = new ≡ old
