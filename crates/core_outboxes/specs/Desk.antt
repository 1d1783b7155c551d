-- What a desk of replies does.
use Rattle.std.specs.Prelude.{◌≡◌, ℕ, ◌+◌, ◌<◌, ◌^◌, not, Bool, true, false, ◌||◌, ◌==◌, if◌then◌else◌, suc, List, ◌∷◌, ◌++◌, map, filter, length, take, drop, slice_get, Option, Some, None}
use Rattle.std.specs.VecDeque.{deque_len, deque_capacity}
use Rattle.std.specs.List.{list_any, position_or_len}
use Rattle.poa_base.specs.declared.Config.{Config}
use Rattle.poa_base.specs.declared.Entry.{Entry}
use Rattle.poa_base.specs.declared.Entry.TheVariants.{Admit}
use Rattle.history_standing.specs.Arrivals.{arrivals}
use Rattle.poa_history.specs.InFlight.{IsManned}
use Rattle.poa_history.specs.Legal.{IsLegal}
use Rattle.poa_history.specs.Replies.{is_collected}
use Rattle.history_standing.specs.Stages.{is_at}
use Rattle.history_standing.specs.Standings.{Standing}
use Rattle.poa_history.specs.States.{Stored}
use Rattle.history_standing.specs.Trees.{In}
use Rattle.core_outboxes.specs.declared.decision.Decision.{Decision}
use Rattle.core_outboxes.specs.declared.desk.Desk.{Desk}
use Rattle.core_outboxes.specs.declared.filed.Filed.{Filed}
use Rattle.core_outboxes.specs.declared.owing.Owing.{Owing}
use Rattle.core_outboxes.specs.declared.wait.Ordered.{Ordered}
use Rattle.core_outboxes.specs.declared.wait.Wait.{Wait}
use Rattle.core_standing.specs.Answers.{AnswersAs}
use Rattle.poa_history.specs.Numbers.{below}
use Rattle.core_outboxes.specs.Owed.{is_owed, Owes, AreOwed}
use Rattle.core_outboxes.specs.Decided.{answered, IsFiled, Decides, reply_to}
use Rattle.core_outboxes.specs.Outboxes.{HasRoomAt, replies_at}
use Rattle.core_outboxes.specs.Waits.{wait_begun, has_come, ordered_by}

-- the row of an arrival gets what it waits for
abbrev pub set_wait : ℕ → Option Wait → Owing → Owing
set_wait r wait o = if o.arrival == r then record o { wait = wait } else o

-- an entry that decides the target decides the call too where this is it, or where what it waits for has come
abbrev pub is_decided : Config → Standing → Option ℕ → Option Ordered → Owing → Bool
is_decided c s target ordered o = is_at o.arrival target || (elim o.wait [ Some wait ↦ has_come c s ordered o.arrival wait | None ↦ false ])

-- the reply of a call that an entry decides: that of the decision where it is the call's, and `ok` to a command that waited
abbrev pub file : Option Decision → Owing → Filed
file decision o = record { arrival = o.arrival; conn = o.conn; head = o.head; reply = reply_to decision o.arrival o.number }

-- the target stands in one row at most
abbrev pub IsAlone : Option ℕ → List Owing → Type 0
IsAlone target os =
    (i : ℕ) (o : Owing) → slice_get os i ≡ Some o → is_at o.arrival target ≡ true
    → list_any (λ p. is_at p.arrival target) (take i os) ≡ false

-- these are its decided replies that aren't collected, in the order in which they were decided: each outbox has those of its
-- connection, and so many are due as calls are owed one and as there are of these
pub record Files (d : Desk) (fs : List Filed) : Type 0 where
  pub each : (conn : ℕ) → replies_at d.outboxes.boxes.items conn ≡ filter (λ f. f.conn == conn) fs
  pub due : d.due ≡ length d.owing.items + length fs

-- there are such, of which this is true
pub record HasFiled (P : List Filed → Type 0) (d : Desk) : Type 0 where
  pub replies : List Filed
  pub files : Files d replies
  pub holds : P replies

-- there is room for one call more of a connection, and for its reply
pub record HasRoomForOne (conn : ℕ) (d : Desk) : Type 0 where
  pub owing : deque_len d.owing < deque_capacity d.owing
  pub outbox : HasRoomAt d.outboxes.boxes.items conn
  pub due : d.due + 1 < 2 ^ 64

-- the place of the first reply of a connection
abbrev pub first_of : ℕ → List Filed → ℕ
first_of conn fs = position_or_len (λ f. f.conn == conn) fs

abbrev pub without_first : ℕ → List Filed → List Filed
without_first conn fs = take (first_of conn fs) fs ++ drop (suc (first_of conn fs)) fs

-- an arrival that is admitted gets what it waits for from now on
abbrev pub waited : Config → ℕ → List Entry → Entry → Owing → Owing
waited c run past (Admit w a verdict) o = set_wait a (wait_begun c run past a verdict) o
waited c run past e o = o

-- the row of an admitted arrival gets this to wait for
abbrev pub waited_by : Entry → Option Wait → Owing → Owing
waited_by (Admit w a verdict) wait o = set_wait a wait o
waited_by e wait o = o

-- what an admitted command waits for is what the history says
abbrev pub WaitIs : Config → ℕ → List Entry → Entry → Option Wait → Type 0
WaitIs c run past (Admit w a verdict) wait = wait ≡ wait_begun c run past a verdict
WaitIs c run past e wait = Unit {0}

-- an entry comes to the desk of a legal history: what stands then, what it decides, what is waited for and ordered are those of the history
pub record Comes (c : Config) (e : Entry) (standing : Standing) (decision : Option Decision) (wait : Option Wait)
    (ordered : Option Ordered) (os : List Owing) : Type 0 where
  pub run : ℕ
  pub limit : ℕ
  pub opened : Stored
  pub past : List Entry
  pub manned : IsManned c run past
  pub legal : IsLegal c run limit (e ∷ past)
  pub stands : AnswersAs c run (e ∷ past) standing
  pub decides : Decides c run opened past e decision
  pub waits : WaitIs c run past e wait
  pub orders : ordered ≡ ordered_by c past e
  pub owed : AreOwed c run past os

-- those that had arrived and are owed a reply still
pub record AreOwedBefore (c : Config) (run : ℕ) (past : List Entry) (e : Entry) (os : List Owing) : Type 0 where
  pub which : map (λ o. o.arrival) os ≡ filter (is_owed c run (e ∷ past)) (below (arrivals past))
  pub each : (o : Owing) → In o os → Owes c run (e ∷ past) o

-- the replies that are left once the entry has collected what it collects
pub record AreLeft (c : Config) (run : ℕ) (opened : Stored) (past : List Entry) (e : Entry) (fs : List Filed) : Type 0 where
  pub which : map (λ f. f.arrival) fs ≡ filter (λ r. not (is_collected (e ∷ past) r)) (answered c run past)
  pub each : (f : Filed) → In f fs → IsFiled c run opened past f
