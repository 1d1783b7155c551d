-- What the core keeps says what its history says.
use Rattle.std.specs.Prelude.{List, reverse}
use Rattle.poa_base.specs.Store.{stored as stored_in}
use Rattle.poa_base.specs.declared.Entry.{Entry}
use Rattle.poa_history.specs.States.{Stored}
use Rattle.poa_history.specs.Runs.{IsRun}
pub use Rattle.core_outboxes.specs.Owed.{AreOwed}
use Rattle.core_outboxes.specs.Decided.{AreFiled}
use Rattle.core_outboxes.specs.Desk.{HasFiled}
pub use Rattle.core_state.specs.State.{StateAgrees}
use Rattle.core_run.specs.Known.{TablesAgree}
use Rattle.core_run.specs.declared.inside.Inside.{Inside}

abbrev pub opened_in : Inside → Stored
opened_in i = stored_in i.opening

pub record Agrees (h : List Entry) (i : Inside) : Type 0 where
  pub runs : IsRun i.config i.run i.limit h
  pub state : StateAgrees i.config i.run (opened_in i) h i.state
  pub tables : TablesAgree i.config i.run h i.tables
  pub owed : AreOwed i.config i.run h i.desk.owing.items
  pub filed : HasFiled (AreFiled i.config i.run (opened_in i) h) i.desk

-- the journal, the newest entry first
abbrev pub history : Inside → List Entry
history i = reverse i.entries.items
