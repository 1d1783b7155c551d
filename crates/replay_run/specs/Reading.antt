-- What is read of the bytes that come over a connection, and which calls arrive.
use Rattle.std.specs.Prelude.{◌≡◌, ℕ, true, ◌||◌, List, [], ◌++◌}
use Rattle.poa_base.specs.declared.Call.{Call}
use Rattle.session_laws.specs.Hearing.{Heard, Stop}
use Rattle.session_laws.specs.HearingPieces.{AsTold, Intake, OfIntake}
use Rattle.session_laws.specs.declared.told.Told.{Told}
use Rattle.session_laws.specs.declared.told.Told.TheVariants as told
use Rattle.replay_run.specs.World.{Talk}
use Rattle.replay_run.specs.Lines.{bad_line}
use Rattle.replay_run.specs.Working.{Either, Stays}
use Rattle.replay_run.specs.Calling.{after_call, call_text}

-- no more bytes of the connection are read
abbrev pub dropped : Talk → Talk
dropped talk = record talk { channel = record talk.channel { dropped = true } }

-- this is left of what came
abbrev pub with_input : Intake → Talk → Talk
with_input input talk = record talk { channel = record talk.channel { input = input } }

-- a call of this size came
abbrev pub called : ℕ → Call → ℕ → Talk → Talk
called conn call size talk = record talk { life = after_call conn call size talk.life }

-- this is heard next over the connection, where that is left of what came
abbrev pub Hears : Talk → Told → Intake → Type 0
Hears talk t input = AsTold t (OfIntake talk.channel.input) (OfIntake input)

-- what stands whole is heard in its order: a call comes, a CancelRequest has no effect, and no byte is read behind a
-- CloseConnection, or behind a message that can't be read or isn't for a server
pub data ReadsOn (conn : ℕ) : Talk → List ℕ → Talk → Type 0 where
  waits : (talk : Talk) (have : ℕ) (input : Intake) → Hears talk (told.More have) input → ReadsOn conn talk [] (with_input input talk)
  closes : (talk : Talk) (input : Intake) → Hears talk told.Closed input → ReadsOn conn talk [] (dropped (with_input input talk))
  fails : (talk : Talk) (at : ℕ) (input : Intake) → Hears talk (told.Bad at) input
      → ReadsOn conn talk (bad_line talk.channel.name at) (dropped (with_input input talk))
  skips : (talk last : Talk) (input : Intake) (text : List ℕ) → Hears talk told.Nothing input → ReadsOn conn (with_input input talk) text last
      → ReadsOn conn talk text last
  comes : (talk last : Talk) (call : Call) (size : ℕ) (input : Intake) (text : List ℕ) → Hears talk (told.Call call size) input
      → ReadsOn conn (called conn call size (with_input input talk)) text last
      → ReadsOn conn talk (call_text talk.channel.name call size talk.life ++ text) last

-- more bytes came: what is heard of the second, behind them is heard of the first
abbrev pub Grows : Intake → List ℕ → Intake → Type 0
Grows old bytes new = (next : List ℕ) (more : List Heard) (stop : Stop) → OfIntake new next more stop → OfIntake old (bytes ++ next) more stop

pub record ReadsBytes (conn : ℕ) (bytes : List ℕ) (before : Talk) (text : List ℕ) (after : Talk) : Type 0 where
  pub input : Intake
  pub grows : Grows before.channel.input bytes input
  pub reads : ReadsOn conn (with_input input before) text after

-- bytes come over a connection, unless they are dropped
abbrev pub Feeds : List ℕ → ℕ → Talk → List ℕ → Talk → Type 0
Feeds bytes conn before = Either (before.channel.dropped || before.channel.ended) Stays (ReadsBytes conn bytes) before
