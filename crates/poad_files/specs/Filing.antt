-- What is printed of a configuration in a file, and the status.
use Rattle.std.specs.Prelude.{◌≡◌, ◌≢◌, ℕ, List, ◌++◌, Option, Ok as OkResult, Err, take}
use Rattle.outside.specs.Keeping.{Contents}
use Rattle.outside.specs.Told.{IfTold}
use Rattle.conf_fields.specs.declared.ConfFault.TheVariants as conf
use Rattle.poad_files.specs.declared.printing.Asked.{Asked}
use Rattle.poad_files.specs.Printing.{ConfPrints}
use Rattle.poad_files.specs.Showing.{GainsNothing}
use Rattle.poad_files.specs.Taking.{config_limit, IsHeld, Refused}
use Rattle.poad_files.specs.declared.status.Status.{Status}
use Rattle.poad_files.specs.declared.status.Status.TheVariants.{Ok, ConfigRefused, WriteFault, FileFault, WantMemory, NoFile, FileTooLong}

-- the content is read as a configuration, and the sink gained so what is printed of it
pub record FileGives (asked : Asked) (content : List ℕ) (held_old held_new : Option (List ℕ))
    (Gains : List ℕ → List ℕ → List ℕ → Type 0) : Type 0 where
  pub text : List ℕ
  pub prints : ConfPrints asked content (OkResult text)
  pub gave : IfTold held_old held_new (Gains text)

-- what is printed of a content, with the status; a fault of writing leaves a front of it
abbrev pub Printed : Asked → List ℕ → Status → Option (List ℕ) → Option (List ℕ) → Type 0
Printed asked content Ok held_old held_new = FileGives asked content held_old held_new (λ bytes old new. new ≡ old ++ bytes)
Printed asked content WriteFault held_old held_new =
    FileGives asked content held_old held_new (λ bytes old new. (n : ℕ) × (new ≡ old ++ take n bytes))
Printed asked content (ConfigRefused fault) held_old held_new = ConfPrints asked content (Err fault) × (fault ≢ conf.WantMemory)
    × GainsNothing held_old held_new
Printed asked content WantMemory held_old held_new = GainsNothing held_old held_new
Printed asked content _ held_old held_new = ⊥

-- the same of the content that the files hold under a name, which is no longer than a configuration may be
pub record OfFile (asked : Asked) (name : List ℕ) (status : Status) (files_old files_new : Option Contents)
    (held_old held_new : Option (List ℕ)) : Type 0 where
  pub content : List ℕ
  pub held : IsHeld name config_limit content files_old files_new
  pub printed : Printed asked content status held_old held_new

-- where the file isn't taken nothing is printed
abbrev pub Filed : Asked → List ℕ → Status → Option Contents → Option Contents → Option (List ℕ) → Option (List ℕ) → Type 0
Filed asked name NoFile files_old files_new held_old held_new = Refused name config_limit NoFile files_old files_new
    × GainsNothing held_old held_new
Filed asked name FileTooLong files_old files_new held_old held_new = Refused name config_limit FileTooLong files_old files_new
    × GainsNothing held_old held_new
Filed asked name FileFault files_old files_new held_old held_new = GainsNothing held_old held_new
Filed asked name WantMemory files_old files_new held_old held_new = GainsNothing held_old held_new
Filed asked name status files_old files_new held_old held_new = OfFile asked name status files_old files_new held_old held_new
