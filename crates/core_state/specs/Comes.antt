-- An entry comes after a history, to servants that are in the states of that history.
use Rattle.std.specs.Prelude.{◌≡◌, ℕ, Bool, true, false, List, ◌∷◌, Option, Some, None, option_map}
use Rattle.poa_base.specs.declared.Config.{Config}
use Rattle.poa_base.specs.declared.Call.{Call}
use Rattle.poa_base.specs.declared.Outcome.{Outcome}
use Rattle.poa_base.specs.declared.Sid.{Sid}
use Rattle.poa_base.specs.declared.Entry.{Entry}
use Rattle.poa_base.specs.declared.Entry.TheVariants.{Admit, Tried, Incarnated, Run, Done, TakeOut, Etherealized, Abandon}
use Rattle.history_standing.specs.declared.stage.Stage.{Stage}
use Rattle.poa_history.specs.Alone.{IsGivenAlone}
use Rattle.poa_history.specs.Bounds.{IsWithinLimits}
use Rattle.poa_history.specs.Legal.{IsLegal}
use Rattle.poa_history.specs.Sound.{IsGiven}
use Rattle.history_standing.specs.Stages.{stage}
use Rattle.history_standing.specs.Standings.{Standing}
use Rattle.poa_history.specs.States.{Stored, acted, call_run, servant_run, state_of}
use Rattle.core_standing.specs.Answers.{AnswersAs}
use Rattle.core_state.specs.Holds.{ServantsAgree}
use Rattle.core_state.specs.Kept.{Kept}
use Rattle.core_state.specs.Steps.{is_new}

-- the worker that makes an entry
abbrev pub worker_of : Entry → Option ℕ
worker_of (Admit w r verdict) = Some w
worker_of (Tried w answer) = Some w
worker_of (Incarnated w answer) = Some w
worker_of (Run w) = Some w
worker_of (Done w) = Some w
worker_of (TakeOut w n etherealize) = Some w
worker_of (Etherealized w cleanup remaining) = Some w
worker_of (Abandon w) = Some w
worker_of e = None

-- the history, with what a run is given, to which the laws of histories apply; what its worker has begun, what stands, and
-- the call and the servant of a run are those of the history
pub record Comes (c : Config) (e : Entry) (begun : Stage) (call : Option Call) (runs : Option Sid) (s : Standing)
    (servants : Kept) : Type 0 where
  pub run : ℕ
  pub limit : ℕ
  pub opened : Stored
  pub past : List Entry
  pub given : IsGiven c run
  pub alone : IsGivenAlone c run
  pub within : IsWithinLimits c limit
  pub legal : IsLegal c run limit (e ∷ past)
  pub stands : AnswersAs c run past s
  pub at_stage : (w : ℕ) → worker_of e ≡ Some w → begun ≡ stage past w
  pub call_is : call ≡ call_run past begun
  pub servant_is : runs ≡ servant_run c run past begun
  pub holds : ServantsAgree c run opened past servants

-- in whatever history the entry comes, the servants are then in its states
abbrev pub HoldsThen : Config → Entry → Stage → Option Call → Option Sid → Standing → Kept → Kept → Type 0
HoldsThen c e begun call runs s old new = (k : Comes c e begun call runs s old) → ServantsAgree c k.run k.opened (e ∷ k.past) new

-- at a Run the servant that runs has its outcome
abbrev pub outcome_told : Config → ℕ → Stored → List Entry → Entry → Option Sid → Option Call → Option Outcome
outcome_told c run opened past (Run w) runs call = option_map (λ t. (acted (state_of c run opened past t) call).1) runs
outcome_told c run opened past e runs call = None

abbrev pub TellsThen : Config → Entry → Stage → Option Call → Option Sid → Standing → Kept → Option Outcome → Type 0
TellsThen c e begun call runs s old outcome = (k : Comes c e begun call runs s old)
    → outcome ≡ outcome_told c k.run k.opened k.past e runs call

-- the entries for which memory may be wanting
abbrev pub may_want : Entry → Bool
may_want (Run w) = true
may_want (Incarnated w answer) = is_new answer
may_want e = false
