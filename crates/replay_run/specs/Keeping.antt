-- What the player keeps between two lines, and what its parts say. These words are for the contracts inside of this crate.
use Rattle.std.specs.Prelude.{◌≡◌, ℕ, ◌+◌, ◌≤◌, ◌<◌, ◌++◌, Bool, true, false, List, [], Option, Some, None, slice_get}
use Rattle.std.specs.Option.{option_or}
use Rattle.poa_base.specs.declared.Config.{Config}
use Rattle.poa_base.specs.declared.Entry.{Entry}
use Rattle.poa_base.specs.declared.Entry.TheVariants.{Entered}
use Rattle.history_standing.specs.Arrivals.{arrivals, arrived_bytes, connections}
use Rattle.poa_history.specs.Legal.{has_left}
use Rattle.poa_history.specs.Life.{with_entry}
use Rattle.session_laws.specs.Calls.{Each, IsSaid}
use Rattle.replay_run.specs.declared.channel.Channel.{Channel}
use Rattle.replay_run.specs.declared.player.Player.{Player}
use Rattle.replay_run.specs.World.{World, Talk}
use Rattle.replay_run.specs.Lines.{limit_line}
use Rattle.replay_run.specs.Reading.{ReadsOn}
use Rattle.replay_run.specs.Talking.{has_room, numbered}
use Rattle.replay_run.specs.Opening.{life_at_first}
use Rattle.replay_run.specs.Effects.{KnowsFilled}

abbrev pub talk : Player → Channel → Talk
talk player channel = record { life = player.core; channel = channel }

abbrev pub world : Player → List Channel → World
world player channels = record { life = player.core; channels = channels; turned_away = player.turned_away }

-- a connection that entered, and hasn't left where it hasn't ended
pub record IsSeated (channel : Channel) (h : List Entry) : Type 0 where
  pub entered : (n : ℕ) → channel.number ≡ Some n → n < connections h
  pub staying : (n : ℕ) → channel.number ≡ Some n → channel.ended ≡ false → has_left h n ≡ false

pub record Keeps (player : Player) (channels : List Channel) : Type 0 where
  pub filled : KnowsFilled player
  pub seated : (i : ℕ) (a : Channel) → slice_get channels i ≡ Some a → IsSeated a player.core.history
  -- no two of them have one number
  pub alone : (i j n : ℕ) (a b : Channel) → slice_get channels i ≡ Some a → slice_get channels j ≡ Some b → a.number ≡ Some n
      → b.number ≡ Some n → i ≡ j
  -- who hasn't entered hasn't left
  pub later : (n : ℕ) → connections player.core.history ≤ n → has_left player.core.history n ≡ false
  -- each call is one of a message, or a line
  pub said : Each IsSaid player.core.history

-- the same over one connection
pub record Tells (P : Talk → List ℕ → Talk → Type 0) (old new : Player) (channel_old channel_new : Channel) : Type 0 where
  pub text : List ℕ
  pub printed : new.printed.items ≡ old.printed.items ++ text
  pub does : P (talk old channel_old) text (talk new channel_new)
  pub filled : KnowsFilled old → KnowsFilled new
  pub turned_away : new.turned_away ≡ old.turned_away

-- the same over the world
pub record Shows (P : World → List ℕ → World → Type 0) (old new : Player) (channels_old channels_new : List Channel) : Type 0 where
  pub text : List ℕ
  pub printed : new.printed.items ≡ old.printed.items ++ text
  pub does : P (world old channels_old) text (world new channels_new)

-- what stands next was read: whether more may stand behind it
abbrev pub ReadsNext : Bool → ℕ → Talk → List ℕ → Talk → Type 0
ReadsNext true conn before text after = (more : List ℕ) (last : Talk) → ReadsOn conn after more last → ReadsOn conn before (text ++ more) last
ReadsNext false conn before text after = ReadsOn conn before text after

-- nothing was printed, and no limit was met
pub record Silent (old new : Player) : Type 0 where
  pub printed : new.printed ≡ old.printed
  pub filled : new.filled ≡ old.filled
  pub turned_away : new.turned_away ≡ old.turned_away

-- the number of a connection to which a line comes
pub data Meets (met : Option ℕ) (old new : Player) (channel_old channel_new : Channel) : Type 0 where
  -- it entered before
  knows : (conn : ℕ) → met ≡ Some conn → channel_old.number ≡ Some conn → new ≡ old → channel_new ≡ channel_old
      → Meets met old new channel_old channel_new
  -- it enters now
  enters : met ≡ Some (connections old.core.history) → channel_old.number ≡ None → has_room old.core ≡ true
      → new.core ≡ with_entry (Entered (connections old.core.history)) old.core → Silent old new
      → channel_new ≡ numbered (connections old.core.history) channel_old → Meets met old new channel_old channel_new
  -- it can't enter
  refuses : met ≡ None → channel_old.number ≡ None → has_room old.core ≡ false → new.core ≡ old.core → new.filled ≡ old.filled
      → new.printed.items ≡ old.printed.items ++ limit_line channel_old.name
      → new.turned_away ≡ option_or old.turned_away
      (Some (record { arrivals = arrivals old.core.history; bytes = arrived_bytes old.core.history }))
      → channel_new ≡ channel_old → Meets met old new channel_old channel_new

-- those that have a number entered
abbrev pub AllEntered : List Channel → List Entry → Type 0
AllEntered channels h = (i n : ℕ) (a : Channel) → slice_get channels i ≡ Some a → a.number ≡ Some n → n < connections h

-- a player before the first line
pub record IsAtFirst (c : Config) (limit : ℕ) (player : Player) : Type 0 where
  pub life : player.core ≡ life_at_first c limit
  pub printed : player.printed.items ≡ []
  pub filled : player.filled ≡ None
  pub turned_away : player.turned_away ≡ None
