-- `answer` by a configuration.
use Rattle.std.specs.Prelude.{◌≡◌, ℕ, List, Option, None, Some, Result, Ok, Err}
use Rattle.outside.specs.Keeping.{Contents}
use Rattle.poa_base.specs.declared.Config.{Config}
use Rattle.poad_files.specs.declared.status.Status.{Status}
use Rattle.poad_answer.specs.declared.configured.TheConstants.{BUILT_IN}
use Rattle.poad_files.specs.Taking.{ReadsAccepted, TakesConfig}
use Rattle.poad_answer.specs.Run.{RunAnswers}

-- the configuration in the file of this name, or the built-in one
abbrev pub NamesConfig : Option (List ℕ) → Result Config Status → Option Contents → Option Contents → Type 0
NamesConfig None result old new = ReadsAccepted BUILT_IN.now result
NamesConfig (Some name) result old new = TakesConfig name result old new

-- without a configuration nothing is read of the source or written
pub data AnswersBy (name : Option (List ℕ)) (status : Status) (files_old files_new : Option Contents)
    (left_old left_new held_old held_new : Option (List ℕ)) : Type 0 where
  unnamed : NamesConfig name (Err status) files_old files_new → left_new ≡ left_old → held_new ≡ held_old
      → AnswersBy name status files_old files_new left_old left_new held_old held_new
  served : (config : Config) → NamesConfig name (Ok config) files_old files_new
      → RunAnswers config status left_old left_new held_old held_new
      → AnswersBy name status files_old files_new left_old left_new held_old held_new
