-- What a call gives by a run of a configuration, with one connection and one worker.
use Rattle.std.specs.Prelude.{◌≡◌, ℕ, true, false, List, Some}
use Rattle.poa_base.specs.declared.Call.{Call}
use Rattle.poa_base.specs.declared.Entry.{Entry}
use Rattle.poa_base.specs.declared.Entry.TheVariants.{Arrive}
use Rattle.giop_answer.specs.Reply.{reply_bytes}
use Rattle.poa_history.specs.Legal.{IsLegal, IsOpen}
use Rattle.poa_history.specs.Lifetime.{HasLifetime}
use Rattle.history_laws.specs.Lasting.{KeepsUpdates, LeavesNothing}
use Rattle.poa_history.specs.Life.{Life, with_entry, opened}
use Rattle.poa_core.specs.Answers.{filled_at, filled_by, is_taken}
use Rattle.session_laws.specs.Calls.{Each, IsHeaded}
use Rattle.replay_run.specs.Working.{IsIdle, Makes}
use Rattle.replay_run.specs.Collecting.{CollectsAll}
use Rattle.poad_answer.specs.Meaning.{GivesBehind, Meaning}

-- the one connection stays, and each call that arrived is one of a message
pub record IsServing (h : List Entry) : Type 0 where
  pub stays : IsOpen h 0
  pub calls : Each IsHeaded h

-- worker 0 takes turns until it has nothing to do
pub data Works : Life → Life → Type 0 where
  works_out : (life : Life) → IsIdle life 0 → Works life life
  works_on : (life last : Life) (e : Entry) → Makes life 0 e → Works (with_entry e life) last → Works life last

-- a call of this size arrives on the one connection, worker 0 takes its turns, and the replies that are decided then are given
pub record GivesCall (life : Life) (call : Call) (size : ℕ) (bytes : List ℕ) (after : Life) : Type 0 where
  pub taken : is_taken life.limit life.history size call ≡ true
  pub worked : Life
  pub works : Works (with_entry (Arrive 0 size call) life) worked
  pub collects : CollectsAll reply_bytes 0 worked bytes after

-- a call of this size is refused for the limits of the run: so many calls, and bytes of them, had arrived
pub record RefusesCall (life : Life) (call : Call) (size calls bytes : ℕ) : Type 0 where
  pub untaken : is_taken life.limit life.history size call ≡ false
  pub filled : filled_at (filled_by 0 size life).history ≡ Some (calls, bytes)

-- what has happened is legal, keeps the lifetimes of activations, leaves nothing undone and keeps updates
pub record IsLegalRun (life : Life) : Type 0 where
  pub legal : IsLegal life.config life.run life.limit life.history
  pub lifetime : HasLifetime life.config life.run life.history
  pub undone : LeavesNothing life.config life.run life.history
  pub updates : KeepsUpdates life.config life.run (opened life) life.history

-- what holds between two calls
pub record IsFit (life : Life) : Type 0 where
  pub serving : IsServing life.history
  pub legal : IsLegalRun life

-- what an answer by a run means
abbrev pub by_core : Meaning Life
by_core = record { fits = IsFit; gives = GivesCall; refuses = RefusesCall }

-- the turns of a call that arrived were taken, and the replies that were decided then stand behind those that stood there
abbrev pub GivesReplies : Life → Life → List ℕ → List ℕ → Type 0
GivesReplies old new before after =
    GivesBehind (λ bytes last. (worked : Life) × (Works old worked × CollectsAll reply_bytes 0 worked bytes last)) new before after
