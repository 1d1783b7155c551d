-- The rule that an entry is under, and the entry that would be allowed in its place.
use Rattle.std.specs.Prelude.{ℕ, Bool, not, ◌&&◌, nat_lt, if◌then◌else◌, List, Option, Some, None, option_map}
use Rattle.poa_base.specs.declared.Config.{Config}
use Rattle.poa_base.specs.declared.Entry.{Entry}
use Rattle.poa_base.specs.declared.Entry.TheVariants.{Entered, Arrive, Filled, Left, Collect, Admit, Tried, Incarnated, Run, Done, TakeOut, Etherealized, Abandon}
use Rattle.history_standing.specs.Arrivals.{connections}
use Rattle.history_standing.specs.Stages.{is_abandoned}
use Rattle.poa_history.specs.Replies.{next_reply}
use Rattle.poa_history.specs.Turns.{turn}
use Rattle.journal_audit.specs.declared.rule.Rule.{Rule}
use Rattle.journal_audit.specs.declared.rule.Rule.TheVariants.{Connection, Collecting, Turn, Worker}

-- there is such a worker, and it hasn't given the run up
abbrev pub is_at_work : List Entry → ℕ → Bool
is_at_work past w = nat_lt w 16 && not (is_abandoned past w)

-- a worker's entry, after the entries before it
abbrev pub rule_of_worker : List Entry → ℕ → Rule
rule_of_worker past w = if is_at_work past w then Turn else Worker

-- an entry, after the entries before it, the newest of these first
abbrev pub rule_of : List Entry → Entry → Rule
rule_of past (Entered conn) = Connection
rule_of past (Arrive conn size call) = Connection
rule_of past (Filled conn size) = Connection
rule_of past (Left conn) = Connection
rule_of past (Collect conn a) = Collecting
rule_of past (Admit w a verdict) = rule_of_worker past w
rule_of past (Tried w answer) = rule_of_worker past w
rule_of past (Incarnated w answer) = rule_of_worker past w
rule_of past (Run w) = rule_of_worker past w
rule_of past (Done w) = rule_of_worker past w
rule_of past (TakeOut w n etherealize) = rule_of_worker past w
rule_of past (Etherealized w cleanup remaining) = rule_of_worker past w
rule_of past (Abandon w) = Worker

-- the next entry of a worker that is at work
abbrev pub due_of_worker : Config → ℕ → List Entry → ℕ → Option Entry
due_of_worker c run past w = if is_at_work past w then turn c run past w else None

-- the number with which the next connection enters
abbrev pub next_connection : List Entry → Option ℕ
next_connection past = if nat_lt (connections past) 4000000 then Some (connections past) else None

-- the one entry that would be allowed in place of another, where there is one: connections enter in order, each is given its
-- next reply, and each worker makes its next entry
abbrev pub due_of : Config → ℕ → List Entry → Entry → Option Entry
due_of c run past (Entered conn) = option_map Entered (next_connection past)
due_of c run past (Collect conn a) = option_map (Collect conn) (next_reply c run past conn)
due_of c run past (Admit w a verdict) = due_of_worker c run past w
due_of c run past (Tried w answer) = due_of_worker c run past w
due_of c run past (Incarnated w answer) = due_of_worker c run past w
due_of c run past (Run w) = due_of_worker c run past w
due_of c run past (Done w) = due_of_worker c run past w
due_of c run past (TakeOut w n etherealize) = due_of_worker c run past w
due_of c run past (Etherealized w cleanup remaining) = due_of_worker c run past w
due_of c run past e = None
