-- What the player printed, and what came of it.
use Rattle.std.specs.Prelude.{◌≡◌, ℕ, ◌++◌, Bool, true, false, List, Some, None, option_map}
use Rattle.poa_base.specs.declared.Entry.{Entry}
use Rattle.poa_base.specs.declared.Entry.TheVariants.{Collect}
use Rattle.poa_base.specs.declared.Reply.{Reply}
use Rattle.history_standing.specs.Arrivals.{call_of}
use Rattle.poa_history.specs.Replies.{next_reply, reply_of}
use Rattle.poa_history.specs.Life.{Life, with_entry, opened}
use Rattle.poa_core.specs.Answers.{filled_at}
use Rattle.poa_history.specs.Heads.{head_of}
use Rattle.replay_run.specs.Lines.{entry_line, reply_line}
use Rattle.replay_run.specs.declared.full.Full.{Full}
use Rattle.replay_run.specs.declared.player.Player.{Player}
use Rattle.replay_run.specs.Working.{Makes, IsIdle}

abbrev pub numbers : Full → ℕ × ℕ
numbers full = (full.arrivals, full.bytes)

-- the player knows when the run was filled
abbrev pub KnowsFilled : Player → Type 0
KnowsFilled player = option_map numbers player.filled ≡ filled_at player.core.history

-- the player printed what `P` says, over the whole run
pub record Works (P : Life → List ℕ → Life → Type 0) (old new : Player) : Type 0 where
  pub text : List ℕ
  pub printed : new.printed.items ≡ old.printed.items ++ text
  pub does : P old.core text new.core
  pub filled : new.filled ≡ old.filled
  pub turned_away : new.turned_away ≡ old.turned_away

-- a turn of a worker: whether it made an entry
pub record MakesOne (w : ℕ) (old new : Player) : Type 0 where
  pub entry : Entry
  pub makes : Makes old.core w entry
  pub printed : new.printed.items ≡ old.printed.items ++ entry_line entry
  pub life : new.core ≡ with_entry entry old.core
  pub filled : new.filled ≡ old.filled
  pub turned_away : new.turned_away ≡ old.turned_away

abbrev pub Takes : Bool → ℕ → Player → Player → Type 0
Takes true w old new = MakesOne w old new
Takes false w old new = IsIdle old.core w × (new ≡ old)

-- turns of a worker: whether it made an entry
abbrev pub Moved : Bool → (Life → Type 0) → Player → Player → Type 0
Moved true Idle old new = Unit {0}
Moved false Idle old new = Idle old.core × (new ≡ old)

-- the player printed a text, and nothing else came
pub record PlayerPrints (P : List ℕ → Type 0) (old new : Player) : Type 0 where
  pub text : List ℕ
  pub printed : new.printed.items ≡ old.printed.items ++ text
  pub is : P text
  pub core : new.core ≡ old.core
  pub filled : new.filled ≡ old.filled
  pub turned_away : new.turned_away ≡ old.turned_away

-- a reply was collected and printed, or none was decided
pub record CollectsOne (name : List ℕ) (conn : ℕ) (old new : Player) : Type 0 where
  pub arrival : ℕ
  pub reply : Reply
  pub next : next_reply old.core.config old.core.run old.core.history conn ≡ Some arrival
  pub is : reply_of old.core.config old.core.run (opened old.core) old.core.history arrival ≡ Some reply
  pub printed : new.printed.items ≡ old.printed.items ++ reply_line name (head_of (call_of old.core.history arrival)) reply
  pub life : new.core ≡ with_entry (Collect conn arrival) old.core
  pub filled : new.filled ≡ old.filled
  pub turned_away : new.turned_away ≡ old.turned_away

abbrev pub CollectsNext : Bool → List ℕ → ℕ → Player → Player → Type 0
CollectsNext true name conn old new = CollectsOne name conn old new
CollectsNext false name conn old new = (next_reply old.core.config old.core.run old.core.history conn ≡ None) × (new ≡ old)
