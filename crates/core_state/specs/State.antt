-- What stands, what is set, and the servants, after a history.
use Rattle.std.specs.Prelude.{◌≡◌, ℕ, Bool, true, false, List, ◌∷◌, Option, option_copied, Result, IfOk, OnOk, OnErr}
use Rattle.poa_base.specs.declared.Config.{Config}
use Rattle.poa_base.specs.declared.Call.{Call}
use Rattle.poa_base.specs.declared.Outcome.{Outcome}
use Rattle.poa_base.specs.declared.Entry.{Entry}
use Rattle.poa_base.specs.declared.Entry.TheVariants.{Admit, Tried, Incarnated, Run, Done, TakeOut, Etherealized}
use Rattle.history_standing.specs.Arrivals.{call_of}
use Rattle.poa_history.specs.States.{Stored, call_run, servant_run}
use Rattle.poa_history.specs.Runs.{IsRun}
use Rattle.core_standing.specs.Kept.{KeepsNoneOver, StandingAgrees}
use Rattle.core_standing.specs.Seen.{seen}
use Rattle.poa_history.specs.Entries.{stage_at, is_turn}
use Rattle.core_settings.specs.Told.{SettingsAgree}
use Rattle.core_state.specs.Holds.{ServantsAgree}
use Rattle.core_state.specs.Kept.{kept_in}
use Rattle.core_state.specs.Comes.{outcome_told}
use Rattle.core_state.specs.declared.coming.Coming.{Coming}
use Rattle.core_state.specs.declared.state.State.{State}

pub record StateAgrees (c : Config) (run : ℕ) (opened : Stored) (h : List Entry) (s : State) : Type 0 where
  -- what stands, where activations that are over may be forgotten
  pub stands : StandingAgrees c run h (seen s.standing)
  -- of the activations that are kept none is over
  pub none_over : KeepsNoneOver c (seen s.standing)
  pub set : SettingsAgree c h s.settings
  pub held : ServantsAgree c run opened h (kept_in s.servants)

-- the call of which the entry of a worker speaks: of an Admit its own, of a Run the one that runs
abbrev pub call_spoken : List Entry → Entry → Option Call
call_spoken past (Admit w r verdict) = call_of past r
call_spoken past e = call_run past (stage_at past e)

-- a worker's entry comes in a run; what its worker had begun, the call and the servant that runs are those of the history
pub record IsNext (c : Config) (run limit : ℕ) (opened : Stored) (past : List Entry) (k : Coming) (s : State) : Type 0 where
  pub follows : IsRun c run limit (k.entry.now ∷ past)
  pub turn : is_turn k.entry.now ≡ true
  pub begun_is : k.stage ≡ stage_at past k.entry.now
  pub call_is : option_copied k.call ≡ call_spoken past k.entry.now
  pub servant_is : k.runs ≡ servant_run c run past k.stage
  pub state : StateAgrees c run opened past s

-- at a Run, what the servant says of the call
abbrev pub outcome_of : Config → ℕ → Stored → List Entry → Coming → Option Outcome
outcome_of c run opened past k = outcome_told c run opened past k.entry.now k.runs (option_copied k.call)

-- a servant runs, is brought or leaves, or a request ends
abbrev pub serves : Entry → Bool
serves (Incarnated w answer) = true
serves (Run w) = true
serves (Done w) = true
serves (TakeOut w n etherealize) = true
serves (Etherealized w cleanup remaining) = true
serves e = false

-- what was begun only ends with the entry
abbrev pub only_ends : Entry → Bool
only_ends (Done w) = true
only_ends (TakeOut w n etherealize) = true
only_ends (Etherealized w cleanup remaining) = true
only_ends e = false

-- the entry comes next in some run
abbrev pub ComesNext : Config → ℕ → Coming → State → Type 0
ComesNext c run k s = (limit : ℕ) × (opened : Stored) × (past : List Entry) × IsNext c run limit opened past k s

-- where it succeeds, the state took in the entry that comes next
abbrev pub StateFollows : {T E : Type 0} → Config → ℕ → Coming → State → Result T E → State → Type 0
StateFollows c run k old result new =
    (limit : ℕ) (opened : Stored) (past : List Entry) → IsNext c run limit opened past k old
    → OnOk result (StateAgrees c run opened (k.entry.now ∷ past) new)

-- where it fails, the state agrees with each history that it agreed with
abbrev pub StateStays : {T E : Type 0} → Config → ℕ → State → Result T E → State → Type 0
StateStays c run old result new =
    (opened : Stored) (past : List Entry) → StateAgrees c run opened past old → OnErr result (StateAgrees c run opened past new)

-- where it succeeds, it is the outcome of the servant that runs with the entry that comes next
abbrev pub GivesOutcome : {E : Type 0} → Config → ℕ → Coming → State → Result (Option Outcome) E → Type 0
GivesOutcome c run k old result =
    (limit : ℕ) (opened : Stored) (past : List Entry) → IsNext c run limit opened past k old
    → IfOk result (λ outcome. outcome ≡ outcome_of c run opened past k)
