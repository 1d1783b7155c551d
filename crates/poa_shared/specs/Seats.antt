-- The seats of a shared core.
use Rattle.poa_base.specs.declared.Entry.{Entry}
use Rattle.poa_history.specs.declared.givens.Givens.{Givens}
use Rattle.seat_lock.specs.Seats.{IsFree, IsSeatOf, Seat}
use Rattle.seat_lock.specs.declared.view.View.{View}
use Rattle.std.specs.Prelude.{Option}
use Rattle.poa_history.specs.Life.{Life}
use Rattle.poa_shared.specs.declared.shared.Shared.{Shared}

-- the seat is one of this shared core, and holds nothing
abbrev pub IsIdle : Shared → Seat (Option Life) (View Givens Entry) → Type 0
IsIdle shared seat = IsSeatOf shared.lock seat × IsFree seat
