-- What `load` writes, and its status.
use Rattle.std.specs.Prelude.{◌≡◌, ℕ, List, ◌++◌, Option, Ok as OkResult, take}
use Rattle.outside.specs.Told.{IfTold}
use Rattle.poa_base.specs.declared.Config.{Config}
use Rattle.poad_files.specs.Showing.{GainsNothing}
use Rattle.poad_files.specs.Taking.{ReadsAccepted}
use Rattle.poad_files.specs.declared.status.Status.{Status}
use Rattle.poad_files.specs.declared.status.Status.TheVariants.{Ok, WriteFault, WantMemory}
use Rattle.poad_load.specs.declared.loading.TheConstants.{CONFIGURATION}
use Rattle.poad_load.specs.Counts.{IsLoaded}

-- the lines of a load on the configuration of the program were written
pub record WritesLoad (n start : ℕ) (Gains : List ℕ → List ℕ → List ℕ → Type 0) (held_old held_new : Option (List ℕ)) : Type 0 where
  pub config : Config
  pub text : List ℕ
  pub read : ReadsAccepted CONFIGURATION.now (OkResult config)
  pub loaded : IsLoaded config n start text
  pub gave : IfTold held_old held_new (Gains text)

-- all six, or after a fault of writing a front of them; for want of memory nothing
abbrev pub LoadGives : ℕ → ℕ → Status → Option (List ℕ) → Option (List ℕ) → Type 0
LoadGives n start Ok old new = WritesLoad n start (λ bytes before after. after ≡ before ++ bytes) old new
LoadGives n start WriteFault old new = WritesLoad n start (λ bytes before after. (k : ℕ) × (after ≡ before ++ take k bytes)) old new
LoadGives n start WantMemory old new = GainsNothing old new
LoadGives n start status old new = ⊥
