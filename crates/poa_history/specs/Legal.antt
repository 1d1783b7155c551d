-- A legal history: each entry may follow the ones before it.
use Rattle.std.specs.Prelude.{◌≡◌, ℕ, ◌+◌, ◌^◌, ◌<◌, ◌≤◌, Bool, true, false, ◌||◌, ◌==◌, List, [], ◌∷◌, Some, ◌⊎◌}
use Rattle.poa_base.specs.declared.limits.TheConstants.{CONNECTIONS}
use Rattle.poa_base.specs.declared.Config.{Config}
use Rattle.poa_base.specs.declared.Call.{Call}
use Rattle.poa_base.specs.declared.Call.TheVariants.{Line}
use Rattle.poa_base.specs.declared.Command.TheVariants.{Shutdown}
use Rattle.poa_base.specs.declared.Entry.{Entry}
use Rattle.poa_base.specs.declared.Entry.TheVariants.{Entered, Arrive, Filled, Left, Collect, Admit, Tried, Incarnated, Run, Done, TakeOut, Etherealized, Abandon}
use Rattle.history_standing.specs.Arrivals.{arrivals, connections, arrived_bytes}
use Rattle.history_standing.specs.Stages.{is_abandoned}
use Rattle.poa_history.specs.Turns.{turn}
use Rattle.poa_history.specs.Replies.{next_reply}

-- the connection has left
abbrev pub has_left : List Entry → ℕ → Bool
has_left [] conn = false
has_left (Left c ∷ past) conn = (c == conn) || has_left past conn
has_left (e ∷ past) conn = has_left past conn

-- a call was refused for the limits of the run
abbrev pub is_filled : List Entry → Bool
is_filled [] = false
is_filled (Filled conn size ∷ past) = true
is_filled (e ∷ past) = is_filled past

abbrev pub is_shutdown : Call → Bool
is_shutdown (Line number Shutdown) = true
is_shutdown call = false

abbrev pub had_shutdown : List Entry → Bool
had_shutdown [] = false
had_shutdown (Arrive conn size call ∷ past) = is_shutdown call || had_shutdown past
had_shutdown (e ∷ past) = had_shutdown past

-- the connection entered, and hasn't left
pub record IsOpen (past : List Entry) (conn : ℕ) : Type 0 where
  pub entered : conn < connections past
  pub staying : has_left past conn ≡ false

-- the size of a message or a line, in bytes
abbrev pub IsSize : ℕ → Type 0
IsSize size = (1 ≤ size) × (size ≤ 1048588)

-- the run has room for one call more of this size
pub record HasRoom (limit : ℕ) (past : List Entry) (size : ℕ) : Type 0 where
  pub unfilled : is_filled past ≡ false
  pub fewer : arrivals past < limit
  pub bytes : arrived_bytes past + size ≤ 2 ^ 30

-- the first `shutdown` is taken also where there is no room
pub record MayArrive (limit : ℕ) (past : List Entry) (conn size : ℕ) (call : Call) : Type 0 where
  pub open_ : IsOpen past conn
  pub sized : IsSize size
  pub room : ((is_shutdown call ≡ true) × (had_shutdown past ≡ false)) ⊎ HasRoom limit past size

pub record MayFill (limit : ℕ) (past : List Entry) (conn size : ℕ) : Type 0 where
  pub open_ : IsOpen past conn
  pub sized : IsSize size
  pub first : is_filled past ≡ false
  pub full : (limit ≤ arrivals past) ⊎ (2 ^ 30 < arrived_bytes past + size)

-- a worker's entry is its next turn
pub record IsTurn (c : Config) (run : ℕ) (past : List Entry) (w : ℕ) (e : Entry) : Type 0 where
  pub worker : w < 16
  pub going : is_abandoned past w ≡ false
  pub next : turn c run past w ≡ Some e

-- the entry may follow the history
abbrev pub MayFollow : Config → ℕ → ℕ → List Entry → Entry → Type 0
MayFollow c run limit past (Entered conn) = (conn ≡ connections past) × (conn < CONNECTIONS)
MayFollow c run limit past (Arrive conn size call) = MayArrive limit past conn size call
MayFollow c run limit past (Filled conn size) = MayFill limit past conn size
MayFollow c run limit past (Left conn) = IsOpen past conn
MayFollow c run limit past (Collect conn a) = next_reply c run past conn ≡ Some a
MayFollow c run limit past (Admit w a verdict) = IsTurn c run past w (Admit w a verdict)
MayFollow c run limit past (Tried w answer) = IsTurn c run past w (Tried w answer)
MayFollow c run limit past (Incarnated w answer) = IsTurn c run past w (Incarnated w answer)
MayFollow c run limit past (Run w) = IsTurn c run past w (Run w)
MayFollow c run limit past (Done w) = IsTurn c run past w (Done w)
MayFollow c run limit past (TakeOut w n etherealize) = IsTurn c run past w (TakeOut w n etherealize)
MayFollow c run limit past (Etherealized w cleanup remaining) = IsTurn c run past w (Etherealized w cleanup remaining)
MayFollow c run limit past (Abandon w) = (w < 16) × (is_abandoned past w ≡ false)

-- a fact of each entry, after the entries before it
abbrev pub EachEntry : (List Entry → Entry → Type 0) → List Entry → Type 0
EachEntry P [] = Unit {0}
EachEntry P (e ∷ past) = P past e × EachEntry P past

abbrev pub IsLegal : Config → ℕ → ℕ → List Entry → Type 0
IsLegal c run limit h = EachEntry (MayFollow c run limit) h
