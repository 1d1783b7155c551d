-- What the rows know of the calls that wait.
use Rattle.std.specs.Prelude.{◌≡◌, ℕ, ◌<◌, Bool, true, ◌||◌, List, ◌∷◌}
use Rattle.poa_base.specs.declared.Config.{Config}
use Rattle.poa_base.specs.declared.Entry.{Entry}
use Rattle.history_standing.specs.Arrivals.{arrivals}
use Rattle.history_standing.specs.Situations.{facts_of}
use Rattle.history_standing.specs.Trees.{In}
use Rattle.history_standing.specs.declared.stage.Stage.{Stage}
use Rattle.poa_history.specs.Alone.{IsGivenAlone}
use Rattle.poa_history.specs.Bounds.{IsWithinLimits}
use Rattle.poa_history.specs.Entries.{stage_at}
use Rattle.poa_history.specs.Legal.{IsLegal}
use Rattle.poa_history.specs.Sound.{IsGiven}
use Rattle.held_queue.specs.Blocks.{Blocks, TakesTurn}
use Rattle.held_queue.specs.Frees.{freed_by}
use Rattle.held_queue.specs.Numbers.{Heap, has}
use Rattle.held_queue.specs.Rows.{in_rows, IsSettledRow}
use Rattle.poa_history.specs.Waiting.{is_waiting}
use Rattle.held_queue.specs.declared.freed.Freed.{Freed}
use Rattle.held_queue.specs.declared.hold.Hold.{Hold}
use Rattle.held_queue.specs.declared.grip.Grip.{Grip}
use Rattle.held_queue.specs.declared.grip.Grip.TheVariants.{Held, Turn, Loose}
use Rattle.held_queue.specs.declared.row.Row.{Row}
use Rattle.held_queue.specs.declared.queue.HeldQueue.{HeldQueue}

-- the call is held as its row is
abbrev pub IsGripped : Config → ℕ → List Entry → ℕ → Grip → Type 0
IsGripped c run h r (Held hold) = Blocks (facts_of c run h r) hold
IsGripped c run h r (Turn k) = TakesTurn k (facts_of c run h r)
IsGripped c run h r Loose = Unit {0}

-- the calls of a row arrived, and are held as it is
abbrev pub IsRow : Config → ℕ → List Entry → Row → Type 0
IsRow c run h row = (r : ℕ) → has row.calls.heap r ≡ true → (r < arrivals h) × IsGripped c run h r row.grip

-- each call that waits is ready to be asked, or in a row of calls that are held
pub record RowsAgree (c : Config) (run : ℕ) (h : List Entry) (ready : Heap) (rows : List Row) : Type 0 where
  pub covered : (r : ℕ) → r < arrivals h → is_waiting h r ≡ true → (has ready r || in_rows rows r) ≡ true
  pub held : (row : Row) → In row rows → IsRow c run h row

abbrev pub HeldAgrees : Config → ℕ → List Entry → HeldQueue → Type 0
HeldAgrees c run h q = RowsAgree c run h q.ready.heap q.rows.items

-- of the calls that the worker asks, the least is ready
abbrev pub AreSettled : ℕ → Heap → List Row → Type 0
AreSettled w ready rows = (row : Row) → In row rows → IsSettledRow w ready row

abbrev pub IsSettled : ℕ → HeldQueue → Type 0
IsSettled w q = AreSettled w q.ready.heap q.rows.items

-- the queue agrees with each history that it agreed with
abbrev pub HeldStays : HeldQueue → HeldQueue → Type 0
HeldStays old new = (c : Config) (run : ℕ) (h : List Entry) → HeldAgrees c run h old → HeldAgrees c run h new

-- the same of the histories of which this holds
abbrev pub HeldStaysWhere : (Config → ℕ → List Entry → Type 0) → HeldQueue → HeldQueue → Type 0
HeldStaysWhere given old new = (c : Config) (run : ℕ) (h : List Entry) → given c run h → HeldAgrees c run h old → HeldAgrees c run h new

-- the same of the histories in which the arrival is held by this
abbrev pub HeldPuts : ℕ → Hold → HeldQueue → HeldQueue → Type 0
HeldPuts r hold old new = (c : Config) (run : ℕ) (h : List Entry) → r < arrivals h → Blocks (facts_of c run h r) hold → HeldAgrees c run h old
    → HeldAgrees c run h new

-- the queue took a legal entry in, with how many calls arrived, what its worker had begun and what the entry frees
abbrev pub HeldFollows : Entry → ℕ → Stage → Freed → HeldQueue → HeldQueue → Type 0
HeldFollows e count begun freed old new =
    (c : Config) (run limit : ℕ) (past : List Entry) → IsGiven c run → IsGivenAlone c run → IsWithinLimits c limit
    → IsLegal c run limit (e ∷ past) → count ≡ arrivals past → begun ≡ stage_at past e → freed ≡ freed_by c run past e
    → HeldAgrees c run past old → HeldAgrees c run (e ∷ past) new
