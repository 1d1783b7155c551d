-- What a run of `answer` did, and its status.
use Rattle.std.specs.Prelude.{◌≡◌, ℕ, ◌<◌, List, ◌++◌, Option, take, ⊤}
use Rattle.outside.specs.Told.{IfTold}
use Rattle.poa_base.specs.declared.Config.{Config}
use Rattle.poa_base.specs.declared.Entry.TheVariants.{Entered}
use Rattle.poa_history.specs.Legal.{IsLegal}
use Rattle.poa_history.specs.Lifetime.{HasLifetime}
use Rattle.history_laws.specs.Lasting.{KeepsUpdates, LeavesNothing}
use Rattle.poa_history.specs.Life.{Life, with_entry, opened}
use Rattle.poa_core.specs.Answers.{unadmitted}
use Rattle.replay_run.specs.Opening.{life_at_first}
use Rattle.session_laws.specs.Hearing.{Heard}
use Rattle.poad_files.specs.declared.status.Status.{Status}
use Rattle.poad_files.specs.declared.status.Status.TheVariants.{Ok, Malformed, ReadFault, WriteFault, Truncated, Held, Limit, WantMemory, InputLimit}
use Rattle.poad_answer.specs.declared.stop.Stop.{Stop}
use Rattle.poad_answer.specs.declared.end.End.{End}
use Rattle.poad_answer.specs.declared.end.End.TheVariants as end
use Rattle.poad_answer.specs.Calls.{Serves}
use Rattle.poad_answer.specs.Serving.{GivesCall, RefusesCall}
use Rattle.poad_answer.specs.Source.{IsRead, SourceEnds}
use Rattle.poad_answer.specs.Stop.{ClosesIn, StopsAt, last_words}

-- why a run ends with a status: `got` was taken of the source, serving it stopped for this reason, and so many calls
-- are unadmitted
abbrev pub RunEnds : Status → Stop → ℕ → List ℕ → Option (List ℕ) → Type 0
RunEnds Ok why held got left = IsRead why got left × (held ≡ 0)
RunEnds (Held count) why held got left = IsRead why got left × (count ≡ held) × (0 < held)
RunEnds (Truncated have) why held got left = SourceEnds (end.Truncated have) why got left
RunEnds (Malformed at) why held got left = SourceEnds (end.Malformed at) why got left
RunEnds (Limit calls bytes) why held got left = SourceEnds (end.Full calls bytes) why got left
RunEnds (InputLimit taken) why held got left = SourceEnds (end.InputLimit taken) why got left
RunEnds ReadFault why held got left = SourceEnds end.ReadFault why got left
RunEnds WriteFault why held got left = SourceEnds end.WriteFault why got left
RunEnds WantMemory why held got left = SourceEnds end.WantMemory why got left
RunEnds _ why held got left = ⊥

-- the sink gained these bytes, or after a fault of writing or want of memory a front of them
abbrev pub Gains : Status → List ℕ → List ℕ → List ℕ → Type 0
Gains WriteFault bytes old new = (n : ℕ) × (new ≡ old ++ take n bytes)
Gains WantMemory bytes old new = (n : ℕ) × (new ≡ old ++ take n bytes)
Gains _ bytes old new = new ≡ old ++ bytes

-- the run of a configuration, once its one connection has entered
abbrev pub life_at_answer : Config → Life
life_at_answer c = with_entry (Entered 0) (life_at_first c 4000000)

-- the run is a legal one of the configuration, keeps the lifetimes of activations, leaves nothing undone and keeps the
-- updates of objects; of want of memory nothing is said
abbrev pub IsKeptBy : Status → Config → Life → Type 0
IsKeptBy WantMemory c life = ⊤
IsKeptBy status c life =
    IsLegal c c.run 4000000 life.history × HasLifetime c c.run life.history × LeavesNothing c c.run life.history
    × KeepsUpdates c c.run (opened (life_at_first c 4000000)) life.history

-- `answer` took bytes of the source, served the messages of their stream in order, up to one that it doesn't serve, and
-- gave the sink their replies, and behind them MessageError where the next message is bad, or CloseConnection where the
-- run refuses its call, in the version of the first message
pub record RunAnswers (c : Config) (status : Status) (left_old left_new held_old held_new : Option (List ℕ)) : Type 0 where
  pub got : List ℕ
  pub took : IfTold left_old left_new (λ old new. old ≡ got ++ new)
  pub calls : List Heard
  pub replies : List ℕ
  pub life : Life
  pub served : Serves GivesCall (life_at_answer c) calls replies life
  pub why : Stop
  pub stops : StopsAt (RefusesCall life) why got calls
  pub minor : ℕ
  pub closes : ClosesIn why got minor
  pub gave : IfTold held_old held_new (Gains status (replies ++ last_words minor why))
  pub ends : RunEnds status why (unadmitted life.history) got left_new
  pub kept : IsKeptBy status c life

-- the status where the input was read whole, which says whether calls are unadmitted
abbrev pub TellsHeld : Status → ℕ → Type 0
TellsHeld Ok held = held ≡ 0
TellsHeld (Held count) held = (count ≡ held) × (0 < held)
TellsHeld _ held = ⊥

-- the status of such an end, where so many calls are unadmitted
abbrev pub TellsEnd : End → Status → ℕ → Type 0
TellsEnd end.Read status held = TellsHeld status held
TellsEnd end.ReadFault status held = status ≡ ReadFault
TellsEnd end.WriteFault status held = status ≡ WriteFault
TellsEnd (end.Malformed at) status held = status ≡ Malformed at
TellsEnd (end.Full calls bytes) status held = status ≡ Limit calls bytes
TellsEnd (end.Truncated have) status held = status ≡ Truncated have
TellsEnd (end.InputLimit taken) status held = status ≡ InputLimit taken
TellsEnd end.WantMemory status held = status ≡ WantMemory
