-- An entry comes after a history, with what stands about the arrival that it speaks of.
use Rattle.std.specs.Prelude.{◌≡◌, ℕ, List, Option, Some, option_and_then}
use Rattle.core_settings.specs.Told.{SettingsAgree}
use Rattle.core_settings.specs.declared.settings.Settings.{Settings}
use Rattle.poa_base.specs.declared.Call.{Call}
use Rattle.poa_base.specs.declared.Config.{Config}
use Rattle.poa_base.specs.declared.Entry.{Entry}
use Rattle.poa_base.specs.declared.Entry.TheVariants.{Admit, Run}
use Rattle.poa_base.specs.declared.Outcome.{Outcome}
use Rattle.poa_base.specs.declared.Sid.{Sid}
use Rattle.history_standing.specs.Arrivals.{call_of}
use Rattle.poa_history.specs.InFlight.{IsManned}
use Rattle.history_standing.specs.Stages.{arrival_in, stage}
use Rattle.poa_history.specs.States.{Stored, acted, call_run, servant_run, state_of}
use Rattle.history_standing.specs.declared.stage.Stage.{Stage}
use Rattle.poa_history.specs.Entries.{stage_at}

-- the arrival that an entry speaks of: the one that it admits, else the one that its worker is at
abbrev pub arrival_at : List Entry → Entry → Option ℕ
arrival_at past (Admit w r verdict) = Some r
arrival_at past e = arrival_in (stage_at past e)

abbrev pub call_at : List Entry → Entry → Option Call
call_at past e = option_and_then (call_of past) (arrival_at past e)

-- at a Run the outcome is that of the servant that runs, in its state then
abbrev pub HasOutcome : Config → ℕ → Stored → List Entry → Entry → Option Outcome → Type 0
HasOutcome c run opened past (Run w) outcome =
    (s : Sid) × (servant_run c run past (stage past w) ≡ Some s)
    × (outcome ≡ Some (acted (state_of c run opened past s) (call_run past (stage past w))).1)
HasOutcome c run opened past e outcome = Unit {0}

-- what its worker had begun, its call, what is set and the outcome are those of the history
pub record Comes (c : Config) (run : ℕ) (opened : Stored) (past : List Entry) (e : Entry) (begun : Stage) (call : Option Call)
    (settings : Settings) (outcome : Option Outcome) : Type 0 where
  pub manned : IsManned c run past
  pub at_stage : begun ≡ stage_at past e
  pub call_is : call ≡ call_at past e
  pub told : SettingsAgree c past settings
  pub ran : HasOutcome c run opened past e outcome
