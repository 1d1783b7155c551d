-- How the core notes an entry behind its journal.
use Rattle.std.specs.Prelude.{◌≡◌, ℕ, ◌+◌, ◌<◌, true, List, ◌∷◌, length, vec_len, vec_capacity}
use Rattle.poa_base.specs.declared.Entry.{Entry}
use Rattle.history_standing.specs.declared.stage.Stage.{Stage}
use Rattle.poa_history.specs.Runs.{IsRun}
use Rattle.poa_history.specs.Entries.{stage_at}
use Rattle.core_outboxes.specs.Owed.{AreOwed}
use Rattle.history_standing.specs.Arrivals.{arrivals}
use Rattle.core_outboxes.specs.Decided.{AreFiled}
use Rattle.core_outboxes.specs.Desk.{AreLeft, AreOwedBefore, HasFiled, HasRoomForOne}
use Rattle.core_arrivals.specs.Placed.{arrives}
use Rattle.core_arrivals.specs.Queued.{HasPlace}
use Rattle.held_queue.specs.Numbers.{HasRoom as HasRoomForCall}
use Rattle.poa_history.specs.Waiting.{may_queue}
use Rattle.core_arrivals.specs.Tallies.{HasRoomFor as HasRoomForTally}
use Rattle.journal_entries.specs.Rows.{HasRoomFor}
use Rattle.core_state.specs.State.{StateAgrees}
use Rattle.core_run.specs.declared.inside.Inside.{Inside}
use Rattle.core_run.specs.declared.brought.Brought.{Brought}
use Rattle.poa_history.specs.Life.{with_entry}
use Rattle.core_run.specs.Known.{TablesAgree}
use Rattle.core_run.specs.Agrees.{opened_in, history}
use Rattle.core_run.specs.Kept.{life}
use Rattle.core_run.specs.Turning.{IsBrought}

-- there is room for the entry
pub record HasRoomForEntry (e : Entry) (i : Inside) : Type 0 where
  pub entries : HasRoomFor e i.entries
  pub calls : arrives e ≡ true → vec_len i.tables.calls.places < vec_capacity i.tables.calls.places
  pub queue : may_queue e ≡ true → HasPlace i.tables.queue
  pub held : may_queue e ≡ true → HasRoomForCall i.tables.held.ready.heap
  pub tally : HasRoomForTally e i.tables.tally

-- what stands is that after the entry; all else that of the history before it
pub record IsHalfway (h : List Entry) (e : Entry) (begun : Stage) (b : Brought) (i : Inside) : Type 0 where
  pub follows : IsRun i.config i.run i.limit (e ∷ h)
  pub begun_is : begun ≡ stage_at h e
  pub state : StateAgrees i.config i.run (opened_in i) (e ∷ h) i.state
  pub brought : IsBrought i.config i.run (opened_in i) h e b
  pub tables : TablesAgree i.config i.run h i.tables
  pub owed : AreOwed i.config i.run h i.desk.owing.items
  pub left : HasFiled (AreLeft i.config i.run (opened_in i) h e) i.desk

-- the entry was noted, and what is kept says what the history says then, but for a call that arrives with it
pub record IsNoted (e : Entry) (old new : Inside) : Type 0 where
  pub runs : IsRun new.config new.run new.limit (e ∷ history old)
  pub state : StateAgrees new.config new.run (opened_in new) (e ∷ history old) new.state
  pub tables : TablesAgree new.config new.run (e ∷ history old) new.tables
  pub before : AreOwedBefore new.config new.run (history old) e new.desk.owing.items
  pub owed : arrivals (e ∷ history old) ≡ arrivals (history old) → AreOwed new.config new.run (e ∷ history old) new.desk.owing.items
  pub filed : HasFiled (AreFiled new.config new.run (opened_in new) (e ∷ history old)) new.desk
  pub due : new.desk.due ≡ old.desk.due
  pub spare : (conn : ℕ) → HasRoomForOne conn old.desk → HasRoomForOne conn new.desk
  pub life_is : life new ≡ with_entry e (life old)
  pub len : length new.entries.items ≡ length old.entries.items + 1
  pub capacity : new.entries.capacity ≡ old.entries.capacity
