-- What the tables of a run say is what its history says.
use Rattle.std.specs.Prelude.{◌≡◌, ℕ, List, ◌∷◌}
use Rattle.poa_base.specs.declared.Config.{Config}
use Rattle.poa_base.specs.declared.Entry.{Entry}
use Rattle.core_arrivals.specs.Placed.{CallsAgree}
use Rattle.core_arrivals.specs.Queued.{QueueAgrees}
use Rattle.core_arrivals.specs.Begun.{WorkersAgree}
use Rattle.held_queue.specs.Held.{HeldAgrees}
use Rattle.core_arrivals.specs.Tallies.{TallyAgrees}
use Rattle.poa_history.specs.Entries.{stage_at}
use Rattle.poa_history.specs.Runs.{IsRun}
use Rattle.held_queue.specs.Frees.{freed_by}
use Rattle.held_queue.specs.declared.freed.Freed.{Freed}
use Rattle.history_standing.specs.declared.stage.Stage.{Stage}
use Rattle.core_run.specs.declared.tables.Tables.{Tables}

pub record TablesAgree (c : Config) (run : ℕ) (h : List Entry) (t : Tables) : Type 0 where
  -- where each call arrived
  pub calls : CallsAgree h t.calls.places.items
  -- which calls wait, in the order of their arrival
  pub queue : QueueAgrees h t.queue
  -- which of them are held, and by what
  pub held : HeldAgrees c run h t.held
  -- what each worker has begun, and which of them gave up
  pub workers : WorkersAgree h t.workers
  -- the connections, calls and bytes that were counted
  pub tally : TallyAgrees h t.tally

-- the tables agree with each history that they agreed with
abbrev pub TablesStay : Tables → Tables → Type 0
TablesStay old new = (c : Config) (run : ℕ) (h : List Entry) → TablesAgree c run h old → TablesAgree c run h new

-- the tables took in the next entry of a run, with what its worker had begun and what it frees
abbrev pub TablesFollow : Entry → Stage → Freed → Tables → Tables → Type 0
TablesFollow e begun freed old new =
    (c : Config) (run limit : ℕ) (past : List Entry) → IsRun c run limit (e ∷ past) → begun ≡ stage_at past e → freed ≡ freed_by c run past e
    → TablesAgree c run past old → TablesAgree c run (e ∷ past) new
