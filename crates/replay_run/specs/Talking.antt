-- What the lines of a connection do.
use Rattle.std.specs.Prelude.{◌≡◌, ℕ, ◌+◌, nat_lt, nat_le, Bool, true, false, ◌||◌, ◌&&◌, not, List, [], length, Option, Some, None, slice_get, slice_set}
use Rattle.std.specs.Option.{option_or}
use Rattle.poa_base.specs.declared.Call.TheVariants.{Line}
use Rattle.poa_base.specs.declared.Entry.TheVariants.{Entered, Left, Collect}
use Rattle.history_standing.specs.Arrivals.{arrivals, arrived_bytes, connections}
use Rattle.admin_line.specs.Reading.{command_of_line}
use Rattle.poa_history.specs.Life.{Life, with_entry}
use Rattle.replay_run.specs.declared.channel.Channel.{Channel}
use Rattle.replay_run.specs.declared.line.Line.{Line as LineData}
use Rattle.replay_run.specs.declared.line.Line.TheVariants as line
use Rattle.replay_run.specs.declared.full.Full.{Full}
use Rattle.replay_run.specs.World.{World, Talk}
use Rattle.replay_run.specs.Lines.{limit_line, reply_line}
use Rattle.replay_run.specs.Working.{Either, Stays}
use Rattle.replay_run.specs.Calling.{after_call, call_text}
use Rattle.replay_run.specs.Reading.{Feeds}
use Rattle.replay_run.specs.Collecting.{CollectsAll}

-- an administrator's line has so many bytes; a script has no other
abbrev pub is_sized : List ℕ → Bool
is_sized words = nat_lt 0 (length words) && nat_le (length words) 4096

-- the line gets the next number of its connection
pub record TakesLine (words : List ℕ) (conn : ℕ) (before : Talk) (text : List ℕ) (after : Talk) : Type 0 where
  pub told : text ≡ call_text before.channel.name (Line (before.channel.lines + 1) (command_of_line words)) (length words) before.life
  pub became : after ≡ record {
    life = after_call conn (Line (before.channel.lines + 1) (command_of_line words)) (length words) before.life;
    channel = record before.channel { lines = before.channel.lines + 1 };
  }

abbrev pub Commands : List ℕ → ℕ → Talk → List ℕ → Talk → Type 0
Commands words conn before = Either (before.channel.ended || not (is_sized words)) Stays (TakesLine words conn) before

-- how things stand where the connection has left
abbrev pub left : ℕ → Talk → Talk
left conn talk = record { life = with_entry (Left conn) talk.life; channel = record talk.channel { ended = true } }

-- the connection leaves, which prints nothing
abbrev pub Leaves : ℕ → Talk → List ℕ → Talk → Type 0
Leaves conn before text after = (text ≡ []) × (after ≡ left conn before)

abbrev pub TalkEnds : ℕ → Talk → List ℕ → Talk → Type 0
TalkEnds conn before = Either before.channel.ended Stays (Leaves conn) before

pub record Collects (conn : ℕ) (before : Talk) (text : List ℕ) (after : Talk) : Type 0 where
  pub life : Life
  pub collects : CollectsAll (reply_line before.channel.name) conn before.life text life
  pub became : after ≡ record before { life = life }

-- what a line does on its connection
abbrev pub Talks : LineData → ℕ → Talk → List ℕ → Talk → Type 0
Talks (line.Bytes bytes) = Feeds bytes.now
Talks (line.Words words) = Commands words.now
Talks line.End = TalkEnds
Talks line.Collect = Collects

-- a run has 4,000,000 connections at most
abbrev pub has_room : Life → Bool
has_room life = nat_lt (connections life.history) 4000000

-- it does so on a connection of this number
pub record Carries (P : ℕ → Talk → List ℕ → Talk → Type 0) (place : ℕ) (channel : Channel) (conn : ℕ) (before : World) (text : List ℕ)
    (after : World) : Type 0 where
  pub talk : Talk
  pub does : P conn (record { life = before.life; channel = channel }) text talk
  pub became : after ≡ record before { life = talk.life; channels = slice_set before.channels place talk.channel }

abbrev pub entered : World → World
entered w = record w { life = with_entry (Entered (connections w.life.history)) w.life }

abbrev pub numbered : ℕ → Channel → Channel
numbered conn channel = record channel { number = Some conn }

abbrev pub turned_away : World → World
turned_away w =
    record w
    { turned_away = option_or w.turned_away (Some (record { arrivals = arrivals w.life.history; bytes = arrived_bytes w.life.history })) }

-- the first line of a connection lets it enter; where it can't, that is printed, and nothing else is done
abbrev pub Enters : Bool → (ℕ → Talk → List ℕ → Talk → Type 0) → ℕ → Channel → World → List ℕ → World → Type 0
Enters true P place channel w text after =
    Carries P place (numbered (connections w.life.history) channel) (connections w.life.history) (entered w) text after
Enters false P place channel w text after = (text ≡ limit_line channel.name) × (after ≡ turned_away w)

abbrev pub OnChannel : Option ℕ → (ℕ → Talk → List ℕ → Talk → Type 0) → ℕ → Channel → World → List ℕ → World → Type 0
OnChannel None P place channel w text after = Enters (has_room w.life) P place channel w text after
OnChannel (Some conn) P place channel w text after = Carries P place channel conn w text after

abbrev pub OnPlace : Option Channel → (ℕ → Talk → List ℕ → Talk → Type 0) → ℕ → World → List ℕ → World → Type 0
OnPlace None P place w text after = Stays w text after
OnPlace (Some channel) P place w text after = OnChannel channel.number P place channel w text after

-- a line of the connection at this place; a script has no line of another
abbrev pub OnLine : (ℕ → Talk → List ℕ → Talk → Type 0) → ℕ → World → List ℕ → World → Type 0
OnLine P place w text after = OnPlace (slice_get w.channels place) P place w text after
