-- Which arrivals wait to be admitted, and which came when too many waited.
use Rattle.std.specs.Prelude.{◌≡◌, ℕ, ◌≤◌, ◌<◌, Bool, not, ◌&&◌, List, ◌∷◌, filter, Option, Some, None}
use Rattle.std.specs.VecDeque.{deque_len, deque_capacity}
use Rattle.poa_base.specs.declared.Call.{Call}
use Rattle.poa_base.specs.declared.Entry.{Entry}
use Rattle.poa_base.specs.declared.Entry.TheVariants.{Arrive, Admit, Tried}
use Rattle.poa_base.specs.declared.Attempt.{Attempt}
use Rattle.poa_base.specs.declared.Attempt.TheVariants.{Yes}
use Rattle.poa_base.specs.declared.Config.{Config}
use Rattle.poa_base.specs.declared.Verdict.{Verdict}
use Rattle.history_standing.specs.Arrivals.{arrivals, call_of, is_message}
use Rattle.history_standing.specs.declared.stage.Stage.{Stage}
use Rattle.history_standing.specs.declared.stage.Stage.TheVariants.{Trying}
use Rattle.history_standing.specs.Stages.{stage, arrival_in, admitted, is_unadmitted}
use Rattle.history_standing.specs.Situations.{is_crowded}
use Rattle.poa_history.specs.Entries.{stage_at}
use Rattle.poa_history.specs.InFlight.{IsManned}
use Rattle.poa_history.specs.Legal.{MayFollow}
use Rattle.poa_history.specs.Numbers.{below}
use Rattle.poa_history.specs.Waiting.{is_waiting}
use Rattle.core_arrivals.specs.declared.queue.Queue.{Queue}

-- an administrator's line that wasn't admitted
abbrev pub is_waiting_line : List Entry → ℕ → Bool
is_waiting_line h r = is_unadmitted h r && not (is_message (call_of h r))

pub record QueueAgrees (h : List Entry) (q : Queue) : Type 0 where
  pub unadmitted_are : q.unadmitted.items ≡ filter (is_unadmitted h) (below (arrivals h))
  pub messages_are : q.messages.items ≡ filter (is_waiting h) (below (arrivals h))
  pub lines_are : q.lines.items ≡ filter (is_waiting_line h) (below (arrivals h))
  pub crowded_are : q.crowded.items ≡ filter (is_crowded h) (below (arrivals h))
  -- what hasn't arrived wasn't admitted
  pub later : (r : ℕ) → arrivals h ≤ r → admitted h r ≡ None

-- the call that goes back to the queue with the entry, where one does
abbrev pub call_tried : List Entry → Entry → Option Call
call_tried past (Tried w (Yes number)) = elim (arrival_in (stage past w)) [ Some r ↦ call_of past r | None ↦ None ]
call_tried past e = None

-- one call more takes no memory
pub record HasPlace (q : Queue) : Type 0 where
  pub unadmitted : deque_len q.unadmitted < deque_capacity q.unadmitted
  pub messages : deque_len q.messages < deque_capacity q.messages
  pub lines : deque_len q.lines < deque_capacity q.lines
  pub crowded : deque_len q.crowded < deque_capacity q.crowded

-- what holds of each history that the queue agrees with
abbrev pub QueueTells : Queue → (List Entry → Type 0) → Type 0
QueueTells q says = (h : List Entry) → QueueAgrees h q → says h

-- the queue agrees with each history that it agreed with
abbrev pub QueueStays : Queue → Queue → Type 0
QueueStays old new = (h : List Entry) → QueueAgrees h old → QueueAgrees h new

-- the queue took in the next call
abbrev pub QueueArrives : ℕ → Call → Queue → Queue → Type 0
QueueArrives r call old new = (past : List Entry) (conn size : ℕ) → r ≡ arrivals past → QueueAgrees past old → QueueAgrees (Arrive conn size call ∷ past) new

-- an arrival left the queue, whatever its verdict
abbrev pub QueueAdmits : ℕ → Queue → Queue → Type 0
QueueAdmits r old new =
    (c : Config) (run limit : ℕ) (past : List Entry) (w : ℕ) (v : Verdict) → MayFollow c run limit past (Admit w r v) → QueueAgrees past old
    → QueueAgrees (Admit w r v ∷ past) new

-- an arrival came back, since a trial made the child for which it waited
abbrev pub QueueTakesBack : ℕ → Option Call → Queue → Queue → Type 0
QueueTakesBack r call old new =
    (c : Config) (run : ℕ) (past : List Entry) (w n : ℕ) → IsManned c run past → stage past w ≡ Trying r → call ≡ call_of past r
    → QueueAgrees past old → QueueAgrees (Tried w (Yes n) ∷ past) new

-- a trial made the child, of the arrival that its worker was at
abbrev pub QueueMakesChild : Option ℕ → Option Call → Queue → Queue → Type 0
QueueMakesChild r call old new =
    (c : Config) (run limit : ℕ) (past : List Entry) (w n : ℕ) → MayFollow c run limit past (Tried w (Yes n)) → IsManned c run past
    → r ≡ arrival_in (stage past w) → call ≡ call_tried past (Tried w (Yes n)) → QueueAgrees past old
    → QueueAgrees (Tried w (Yes n) ∷ past) new

-- a trial ended, of the arrival that its worker was at
abbrev pub QueueTries : Attempt → Option ℕ → Option Call → Queue → Queue → Type 0
QueueTries answer r call old new =
    (c : Config) (run limit : ℕ) (past : List Entry) (w : ℕ) → MayFollow c run limit past (Tried w answer) → IsManned c run past
    → r ≡ arrival_in (stage past w) → call ≡ call_tried past (Tried w answer) → QueueAgrees past old → QueueAgrees (Tried w answer ∷ past) new

-- the queue took an entry in that may follow, with how many calls arrived, what its worker had begun and the call that
-- goes back
abbrev pub QueueFollows : Entry → ℕ → Stage → Option Call → Queue → Queue → Type 0
QueueFollows e count begun call old new =
    (c : Config) (run limit : ℕ) (past : List Entry) → MayFollow c run limit past e → IsManned c run past → count ≡ arrivals past
    → begun ≡ stage_at past e → call ≡ call_tried past e → QueueAgrees past old → QueueAgrees (e ∷ past) new
