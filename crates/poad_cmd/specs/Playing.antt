-- What `replay` writes, and its status.
use Rattle.std.specs.Prelude.{◌≡◌, ℕ, ◌<◌, List, ◌++◌, Option, None, Some, Ok as OkResult, Err, take}
use Rattle.outside.specs.Keeping.{Contents}
use Rattle.outside.specs.Told.{IfTold}
use Rattle.poa_base.specs.declared.Config.{Config}
use Rattle.poa_base.specs.declared.limits.TheConstants.{CALLS}
use Rattle.replay_script.specs.declared.Script.{Script}
use Rattle.replay_run.specs.declared.full.Full.{Full}
use Rattle.replay_run.specs.declared.Played.{Played}
use Rattle.replay_run.specs.Playing.{IsPlayed}
use Rattle.poad_files.specs.Showing.{GainsNothing}
use Rattle.poad_files.specs.Taking.{TakesConfig, TakesScript}
use Rattle.poad_files.specs.declared.status.Status.{Status}
use Rattle.poad_files.specs.declared.status.Status.TheVariants.{Ok, ConfigRefused, ScriptRefused, WriteFault, FileFault, WantMemory, NoFile, FileTooLong, Held, Limit}

-- the status behind the last line: a limit was met, or calls are held, or neither
abbrev pub EndsPlay : Status → ℕ → Option Full → Type 0
EndsPlay Ok held full = (full ≡ None) × (held ≡ 0)
EndsPlay (Held count) held full = (full ≡ None) × (held ≡ count) × (0 < count)
EndsPlay (Limit arrivals bytes) held full = full ≡ Some (record { arrivals = arrivals; bytes = bytes })
EndsPlay status held full = ⊥

-- what the script prints was written
pub record Writes (c : Config) (script : Script) (Ends : Played → Type 0) (Gains : List ℕ → List ℕ → List ℕ → Type 0)
    (held_old held_new : Option (List ℕ)) : Type 0 where
  pub played : Played
  pub is : IsPlayed c CALLS script played
  pub gave : IfTold held_old held_new (Gains played.printed)
  pub ends : Ends played

-- the whole of it, or after a fault of writing a front; for want of memory nothing
abbrev pub PlaysScript : Config → Script → Status → Option (List ℕ) → Option (List ℕ) → Type 0
PlaysScript c script WriteFault old new =
    Writes c script (λ played. Unit {0}) (λ bytes before after. (n : ℕ) × (after ≡ before ++ take n bytes)) old new
PlaysScript c script WantMemory old new = GainsNothing old new
PlaysScript c script status old new =
    Writes c script (λ played. EndsPlay status played.held played.full) (λ bytes before after. after ≡ before ++ bytes) old new

-- of the configuration and the script that the files hold under these names
pub record PlaysTaken (file script : List ℕ) (status : Status) (files_old files_new : Option Contents)
    (held_old held_new : Option (List ℕ)) : Type 0 where
  pub config : Config
  pub lines : Script
  pub takes_config : TakesConfig file (OkResult config) files_old files_new
  pub takes_script : TakesScript script (OkResult lines) files_old files_new
  pub plays : PlaysScript config lines status held_old held_new

-- where the configuration isn't taken, or, behind an accepted configuration, the script isn't, nothing is written
pub record NoScript (file script : List ℕ) (status : Status) (files_old files_new : Option Contents) : Type 0 where
  pub config : Config
  pub takes_config : TakesConfig file (OkResult config) files_old files_new
  pub refused : TakesScript script (Err status) files_old files_new

pub data NotTaken (file script : List ℕ) (status : Status) (files_old files_new : Option Contents) : Type 0 where
  no_config : TakesConfig file (Err status) files_old files_new → NotTaken file script status files_old files_new
  no_script : NoScript file script status files_old files_new → NotTaken file script status files_old files_new

abbrev pub PlaysFiles : List ℕ → List ℕ → Status → Option Contents → Option Contents → Option (List ℕ) → Option (List ℕ) → Type 0
PlaysFiles file script (ConfigRefused fault) files_old files_new old new = NotTaken file script (ConfigRefused fault) files_old files_new
    × GainsNothing old new
PlaysFiles file script (ScriptRefused line) files_old files_new old new = NotTaken file script (ScriptRefused line) files_old files_new
    × GainsNothing old new
PlaysFiles file script NoFile files_old files_new old new = NotTaken file script NoFile files_old files_new × GainsNothing old new
PlaysFiles file script FileTooLong files_old files_new old new = NotTaken file script FileTooLong files_old files_new × GainsNothing old new
PlaysFiles file script FileFault files_old files_new old new = GainsNothing old new
PlaysFiles file script WantMemory files_old files_new old new = GainsNothing old new
PlaysFiles file script status files_old files_new old new = PlaysTaken file script status files_old files_new old new
