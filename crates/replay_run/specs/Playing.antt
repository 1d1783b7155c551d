-- What a script prints.
use Rattle.std.specs.Prelude.{◌≡◌, ℕ, false, List, [], ◌∷◌, ◌++◌, Option, Some, None, option_map}
use Rattle.std.specs.Option.{option_or}
use Rattle.poa_base.specs.declared.Config.{Config}
use Rattle.session_laws.specs.declared.peer.Peer.TheVariants.{Client}
use Rattle.session_laws.specs.Expecting.{Expects}
use Rattle.session_laws.specs.HearingPieces.{OfIntake}
use Rattle.poa_history.specs.Legal.{IsLegal}
use Rattle.poa_history.specs.Lifetime.{HasLifetime}
use Rattle.history_laws.specs.Undone.{IsAllDone}
use Rattle.history_laws.specs.Lasting.{KeepsUpdates, LeavesNothing}
use Rattle.poa_history.specs.Life.{Life, opened}
use Rattle.poa_core.specs.Answers.{filled_at, unadmitted}
use Rattle.replay_script.specs.declared.Script.{Script}
use Rattle.replay_script.specs.declared.ScriptStep.{ScriptStep}
use Rattle.replay_script.specs.declared.Step.{Step as StepData}
use Rattle.replay_script.specs.declared.Step.TheVariants as step
use Rattle.replay_run.specs.declared.channel.Channel.{Channel}
use Rattle.replay_run.specs.declared.full.Full.{Full}
use Rattle.replay_run.specs.declared.played.Played.{Played}
use Rattle.replay_run.specs.World.{World}
use Rattle.replay_run.specs.Lines.{reply_line}
use Rattle.replay_run.specs.Working.{Turns, Runs, ByWorker, Then, Stays, Rests}
use Rattle.replay_run.specs.Reading.{Feeds}
use Rattle.replay_run.specs.Asking.{asked}
use Rattle.replay_run.specs.Talking.{OnLine, Commands, TalkEnds, Collects}
use Rattle.replay_run.specs.Collecting.{CollectsAll}
use Rattle.replay_run.specs.Effects.{numbers}
use Rattle.replay_run.specs.Showing.{IsStoreText, history_text}
use Rattle.replay_run.specs.Opening.{life_at_first}

-- what the workers do is done
pub record OnLife (P : Life → List ℕ → Life → Type 0) (before : World) (text : List ℕ) (after : World) : Type 0 where
  pub life : Life
  pub does : P before.life text life
  pub became : after ≡ record before { life = life }

-- something is printed, and nothing changes
abbrev pub WorldPrints : (Life → List ℕ → Type 0) → World → List ℕ → World → Type 0
WorldPrints P before text after = P before.life text × (after ≡ before)

-- what a step prints and does
abbrev pub Plays : StepData → World → List ℕ → World → Type 0
Plays (step.Ask place id path oid operation argument) = λ w. OnLine (Feeds (asked w.life id path oid operation argument)) place w
Plays (step.Feed place bytes) = OnLine (Feeds bytes) place
Plays (step.End place) = OnLine TalkEnds place
Plays (step.Admin place words) = OnLine (Commands words) place
Plays (step.Step worker) = OnLife (ByWorker Turns worker)
Plays (step.Run worker) = OnLife (ByWorker Runs worker)
Plays (step.Collect place) = OnLine Collects place
Plays step.Store = WorldPrints IsStoreText
Plays step.Journal = WorldPrints (λ life text. text ≡ history_text life)

-- the steps one behind the other
abbrev pub PlaysAll : List ScriptStep → World → List ℕ → World → Type 0
PlaysAll [] = Stays
PlaysAll (s ∷ ss) = Then (Plays s.step) (PlaysAll ss)

-- a connection before its first line
pub record IsFresh (name : List ℕ) (channel : Channel) : Type 0 where
  pub named : channel.name ≡ name
  pub number : channel.number ≡ None
  pub input : Expects Client (OfIntake channel.input) [] []
  pub lines : channel.lines ≡ 0
  pub dropped : channel.dropped ≡ false
  pub ended : channel.ended ≡ false

abbrev pub AreFresh : List (List ℕ) → List Channel → Type 0
AreFresh [] [] = Unit {0}
AreFresh (name ∷ names) (channel ∷ channels) = IsFresh name channel × AreFresh names channels
AreFresh names channels = ⊥

pub record IsOpening (c : Config) (limit : ℕ) (names : List (List ℕ)) (w : World) : Type 0 where
  pub life : w.life ≡ life_at_first c limit
  pub channels : AreFresh names w.channels
  pub nobody : w.turned_away ≡ None

-- what is collected at the end of a connection that entered
abbrev pub CollectsOf : List ℕ → Option ℕ → Life → List ℕ → Life → Type 0
CollectsOf name None = Stays
CollectsOf name (Some conn) = CollectsAll (reply_line name) conn

-- the connections one behind the other
abbrev pub CollectsEach : List Channel → Life → List ℕ → Life → Type 0
CollectsEach [] = Stays
CollectsEach (c ∷ cs) = Then (CollectsOf c.name c.number) (CollectsEach cs)

-- a script prints this, and leaves this history; `played` is how things stand behind its last line
pub record Outputs (c : Config) (limit : ℕ) (script : Script) (text : List ℕ) (played : World) (last : Life) : Type 0 where
  pub opening : World
  pub opens : IsOpening c limit script.connections opening
  pub front : List ℕ
  pub rest : List ℕ
  pub plays : PlaysAll script.steps opening front played
  pub finishes : Then Rests (CollectsEach played.channels) played.life rest last
  pub joined : text ≡ front ++ rest

-- the numbers of calls and of bytes of them at the first call that the run refused, or else at the first connection
abbrev pub full_of : Life → Option Full → Option (ℕ × ℕ)
full_of last turned_away = option_or (filled_at last.history) (option_map numbers turned_away)

-- what is answered for a script
pub record IsPlayed (c : Config) (limit : ℕ) (script : Script) (answer : Played) : Type 0 where
  pub played : World
  pub last : Life
  pub outputs : Outputs c limit script answer.printed played last
  pub legal : IsLegal c c.run limit last.history
  pub lifetime : HasLifetime c c.run last.history
  pub undone : LeavesNothing c c.run last.history
  -- what the script leaves undone a manager in the state HOLDING holds back
  pub left : IsAllDone c c.run last.history
  pub updates : KeepsUpdates c c.run (opened (life_at_first c limit)) last.history
  pub held : answer.held ≡ unadmitted last.history
  pub full : option_map numbers answer.full ≡ full_of last played.turned_away
