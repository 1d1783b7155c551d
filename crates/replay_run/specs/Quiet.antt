-- Steps of scripts, played so that nothing of them is printed: what they come to.
use Rattle.std.specs.Prelude.{◌≡◌, ℕ, List, [], ◌∷◌, ◌++◌, Option, None, Some}
use Rattle.poa_base.specs.declared.Head.{Head}
use Rattle.poa_base.specs.declared.Reply.{Reply}
use Rattle.poa_base.specs.declared.Reply.TheVariants.{Answer}
use Rattle.giop_answer.specs.Reply.{reply_bytes}
use Rattle.poa_history.specs.Life.{Life, givens_of}
use Rattle.replay_run.specs.Collecting.{CollectsAll}
use Rattle.replay_run.specs.Working.{Stays, Then}
use Rattle.replay_run.specs.World.{World}
use Rattle.replay_run.specs.Playing.{OnLife}
use Rattle.replay_run.specs.Keeping.{Keeps, world}
use Rattle.replay_run.specs.declared.channel.Channel.{Channel}
use Rattle.replay_run.specs.declared.quiet.QuietPlay.{QuietPlay}

-- it is done, whatever it would print
pub record Quietly {S : Type 0} (P : S → List ℕ → S → Type 0) (before after : S) : Type 0 where
  pub text : List ℕ
  pub does : P before text after

-- the message of a reply; the answer to an administrator's line is none
abbrev pub message_of : Head → Reply → List ℕ
message_of head (Answer number answer) = []
message_of head reply = reply_bytes head reply

-- the messages that a connection is owed, if it entered
abbrev pub GathersOf : Option ℕ → Life → List ℕ → Life → Type 0
GathersOf None = Stays
GathersOf (Some conn) = CollectsAll message_of conn

-- the connections one behind the other
abbrev pub GathersEach : List Channel → Life → List ℕ → Life → Type 0
GathersEach [] = Stays
GathersEach (c ∷ cs) = Then (GathersOf c.number) (GathersEach cs)

-- the replies that connections are owed are collected, and these are the messages among them
abbrev pub Gathers : World → List ℕ → World → Type 0
Gathers before messages after = OnLife (GathersEach before.channels) before messages after

-- these bytes came behind others
pub record PutsBehind {S : Type 0} (P : S → List ℕ → S → Type 0) (out_old out_new : List ℕ) (before after : S) : Type 0 where
  pub bytes : List ℕ
  pub put : out_new ≡ out_old ++ bytes
  pub does : P before bytes after

-- how a play stands
abbrev pub world_of : QuietPlay → World
world_of play = world play.player play.channels.items

-- each connection of it is one that stays, or has ended
abbrev pub IsInPlay : QuietPlay → Type 0
IsInPlay play = Keeps play.player play.channels.items

-- a run of the same givens
abbrev pub HasGivens : Life → Life → Type 0
HasGivens old new = givens_of new ≡ givens_of old
