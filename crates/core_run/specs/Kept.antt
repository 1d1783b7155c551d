-- What stays true of the core between its calls.
use Rattle.std.specs.Prelude.{◌≡◌, ℕ, ◌+◌, ◌<◌, ◌≤◌, false, if◌then◌else◌, List, ◌∷◌, length, vec_len, vec_capacity}
use Rattle.poa_base.specs.declared.Entry.{Entry}
use Rattle.poa_history.specs.Runs.{IsRun}
use Rattle.core_arrivals.specs.Tallies.{HasRoomForOne as HasRoomForConnection}
use Rattle.core_outboxes.specs.Desk.{AreLeft, HasFiled}
use Rattle.core_arrivals.specs.Queued.{HasPlace}
use Rattle.held_queue.specs.Numbers.{HasRoom as HasRoomForCall}
use Rattle.core_run.specs.declared.inside.Inside.{Inside}
use Rattle.poa_history.specs.Life.{Life}
use Rattle.core_outboxes.specs.Owed.{AreOwed}
use Rattle.core_state.specs.State.{StateAgrees}
use Rattle.poa_history.specs.Entries.{is_turn}
use Rattle.core_run.specs.Known.{TablesAgree}
use Rattle.core_run.specs.ToCome.{is_ending, stay}
use Rattle.core_run.specs.Agrees.{Agrees, history, opened_in}

-- how many entries may still come that take no memory: a Collect of each reply, a Left of each connection, one Filled,
-- a Done or an Etherealized of each worker that has only that to do, an Abandon of each worker
abbrev pub to_come : Inside → ℕ
to_come i = i.desk.due + stay i.tables

-- the journal has room for them, and for so many more
abbrev pub HasSpace : ℕ → Inside → Type 0
HasSpace more i = length i.entries.items + to_come i + more ≤ i.entries.capacity

pub record IsKept (i : Inside) : Type 0 where
  pub agrees : Agrees (history i) i
  pub space : HasSpace 0 i

-- how much room an entry of a worker needs behind them: none where it only ends what was begun
abbrev pub needed : Entry → ℕ
needed e = if is_ending e then 0 else 2

-- there is room for one entry more, whatever it is; for a call's reply the desk has room
pub record IsReady (i : Inside) : Type 0 where
  pub agrees : Agrees (history i) i
  pub space : HasSpace 2 i
  pub whole : 0 < i.entries.spare
  pub calls : vec_len i.tables.calls.places + 1 ≤ vec_capacity i.tables.calls.places
  pub queue : HasPlace i.tables.queue
  pub held : HasRoomForCall i.tables.held.ready.heap
  pub tally : HasRoomForConnection i.tables.tally

-- the run as it is seen
abbrev pub life : Inside → Life
life i = record { config = i.config; run = i.run; limit = i.limit; opening = i.opening; history = history i }

-- an entry comes that is no turn of a worker; what it collects was collected
pub record IsQuiet (h : List Entry) (e : Entry) (i : Inside) : Type 0 where
  pub follows : IsRun i.config i.run i.limit (e ∷ h)
  pub still : is_turn e ≡ false
  pub state : StateAgrees i.config i.run (opened_in i) h i.state
  pub tables : TablesAgree i.config i.run h i.tables
  pub owed : AreOwed i.config i.run h i.desk.owing.items
  pub left : HasFiled (AreLeft i.config i.run (opened_in i) h e) i.desk
