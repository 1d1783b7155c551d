-- What a command reads of its files.
use Rattle.std.specs.Prelude.{◌≡◌, ◌≢◌, ℕ, ◌<◌, ◌≤◌, List, Option, None, Some, Result, Ok, Err, length, ⊤}
use Rattle.std.specs.Option.{IsSomeAnd}
use Rattle.outside.specs.Keeping.{Contents}
use Rattle.outside.specs.Told.{IfTold}
use Rattle.poa_base.specs.declared.Config.{Config}
use Rattle.conf_fields.specs.declared.ConfFault.{ConfFault}
use Rattle.conf_fields.specs.declared.ConfFault.TheVariants as conf
use Rattle.conf_toml.specs.Configuration.{ReadAs}
use Rattle.replay_script.specs.declared.Script.{Script}
use Rattle.replay_script.specs.Whole.{script_of}
use Rattle.poad_files.specs.declared.status.Status.{Status}
use Rattle.poad_files.specs.declared.status.Status.TheVariants.{ConfigRefused, ScriptRefused, FileFault, WantMemory, NoFile, FileTooLong}

-- a configuration, and a script, has at most so many bytes
abbrev pub config_limit : ℕ
config_limit = 1048576

abbrev pub script_limit : ℕ
script_limit = 67108864

-- the files hold this under the name, and it isn't too long
pub record IsHeld (name : List ℕ) (limit : ℕ) (content : List ℕ) (old new : Option Contents) : Type 0 where
  pub within : length content ≤ limit
  pub held : IfTold old new (λ before after. before name ≡ Some content)

-- why a file isn't taken
abbrev pub Refused : List ℕ → ℕ → Status → Option Contents → Option Contents → Type 0
Refused name limit NoFile old new = IfTold old new (λ before after. before name ≡ None)
Refused name limit FileTooLong old new = IfTold old new (λ before after. IsSomeAnd (before name) (λ content. limit < length content))
Refused name limit FileFault old new = ⊤
Refused name limit WantMemory old new = ⊤
Refused name limit status old new = ⊥

abbrev pub TakesFile : List ℕ → ℕ → Result (List ℕ) Status → Option Contents → Option Contents → Type 0
TakesFile name limit (Ok content) old new = IsHeld name limit content old new
TakesFile name limit (Err status) old new = Refused name limit status old new

-- the configuration of a text
abbrev pub ReadsConfig : List ℕ → Result Config Status → Type 0
ReadsConfig content (Ok config) = ReadAs content (Ok config)
ReadsConfig content (Err (ConfigRefused fault)) = ReadAs content (Err fault) × (fault ≢ conf.WantMemory)
ReadsConfig content (Err WantMemory) = ⊤
ReadsConfig content (Err status) = ⊥

-- the text is a configuration
abbrev pub IsAccepted : List ℕ → Type 0
IsAccepted content = (config : Config) × ReadAs content (Ok config)

-- the configuration of a text that is one
abbrev pub ReadsAccepted : List ℕ → Result Config Status → Type 0
ReadsAccepted content (Ok config) = ReadAs content (Ok config)
ReadsAccepted content (Err WantMemory) = ⊤
ReadsAccepted content (Err status) = ⊥

-- the script of a text
abbrev pub ReadsScript : List ℕ → Result Script Status → Type 0
ReadsScript content (Ok script) = script_of content ≡ Ok script
ReadsScript content (Err (ScriptRefused line)) = script_of content ≡ Err line
ReadsScript content (Err WantMemory) = ⊤
ReadsScript content (Err status) = ⊥

-- the same of a file's content; or the file isn't taken
pub record OfContent (name : List ℕ) (limit : ℕ) (Reads : List ℕ → Type 0) (old new : Option Contents) : Type 0 where
  pub content : List ℕ
  pub held : IsHeld name limit content old new
  pub reads : Reads content

abbrev pub TakesConfig : List ℕ → Result Config Status → Option Contents → Option Contents → Type 0
TakesConfig name (Ok config) old new = OfContent name config_limit (λ content. ReadsConfig content (Ok config)) old new
TakesConfig name (Err (ConfigRefused fault)) old new =
    OfContent name config_limit (λ content. ReadsConfig content (Err (ConfigRefused fault))) old new
TakesConfig name (Err status) old new = Refused name config_limit status old new

abbrev pub TakesScript : List ℕ → Result Script Status → Option Contents → Option Contents → Type 0
TakesScript name (Ok script) old new = OfContent name script_limit (λ content. ReadsScript content (Ok script)) old new
TakesScript name (Err (ScriptRefused line)) old new =
    OfContent name script_limit (λ content. ReadsScript content (Err (ScriptRefused line))) old new
TakesScript name (Err status) old new = Refused name script_limit status old new

-- each name holds what it held
abbrev pub HoldsStill : Contents → Contents → Type 0
HoldsStill old new = (name : List ℕ) → new name ≡ old name

-- the status where reading a text gave this fault
abbrev pub Refuses : Status → ConfFault → Type 0
Refuses WantMemory fault = fault ≡ conf.WantMemory
Refuses (ConfigRefused told) fault = (told ≡ fault) × (fault ≢ conf.WantMemory)
Refuses _ fault = ⊥
