-- What `migrate` of a file and a text prints, and its status.
use Rattle.std.specs.Prelude.{◌≡◌, ℕ, List, ◌++◌, codes, Option, Ok as OkResult, Err, take, ◌⊎◌}
use Rattle.outside.specs.Keeping.{Contents}
use Rattle.outside.specs.Told.{IfTold}
use Rattle.poa_base.specs.declared.Config.{Config}
use Rattle.poa_base.specs.declared.Ior.{Ior}
use Rattle.ior_text.specs.Written.{ior_text}
use Rattle.poad_files.specs.Migration.{IsMigrated}
use Rattle.poad_files.specs.Referring.{Refers, RefersNot}
use Rattle.poad_files.specs.Showing.{GainsNothing}
use Rattle.poad_files.specs.Taking.{TakesConfig}
use Rattle.poad_files.specs.declared.status.Status.{Status}
use Rattle.poad_files.specs.declared.status.Status.TheVariants.{Ok, TextRefused, WriteFault, WantMemory, LocRefused}

-- the line is the written form of the reference, migrated by the configuration
pub record IsMigratedLine (c : Config) (ior : Ior) (line : List ℕ) : Type 0 where
  pub migrated : Ior
  pub is : IsMigrated c ior migrated
  pub spelled : line ≡ ior_text migrated ++ codes "\n"

-- the text refers, and the sink gained the line of its reference so
pub record MigratePrints (c : Config) (text : List ℕ) (held_old held_new : Option (List ℕ)) (Gains : List ℕ → List ℕ → List ℕ → Type 0) :
    Type 0 where
  pub ior : Ior
  pub refers : Refers text ior
  pub line : List ℕ
  pub is_line : IsMigratedLine c ior line
  pub gave : IfTold held_old held_new (Gains line)

-- the reference is printed, or the text is none; a fault of writing leaves a front of the line
abbrev pub MigratesText : Config → Status → List ℕ → Option (List ℕ) → Option (List ℕ) → Type 0
MigratesText c Ok text held_old held_new = MigratePrints c text held_old held_new (λ bytes old new. new ≡ old ++ bytes)
MigratesText c (TextRefused fault) text held_old held_new = RefersNot text (TextRefused fault) × GainsNothing held_old held_new
MigratesText c (LocRefused fault) text held_old held_new = RefersNot text (LocRefused fault) × GainsNothing held_old held_new
MigratesText c WriteFault text held_old held_new =
    MigratePrints c text held_old held_new (λ bytes old new. (n : ℕ) × (new ≡ old ++ take n bytes))
MigratesText c WantMemory text held_old held_new = GainsNothing held_old held_new
MigratesText c _ text held_old held_new = ⊥

-- a configuration is taken of the file, by which the text's reference is migrated
pub record MigratesBy (name text : List ℕ) (status : Status) (files_old files_new : Option Contents) (held_old held_new : Option (List ℕ)) :
    Type 0 where
  pub config : Config
  pub taken : TakesConfig name (OkResult config) files_old files_new
  pub migrates : MigratesText config status text held_old held_new

-- or the file gives none, and nothing is printed
abbrev pub MigratesFile : List ℕ → List ℕ → Status → Option Contents → Option Contents → Option (List ℕ) → Option (List ℕ) → Type 0
MigratesFile name text status files_old files_new held_old held_new =
    (TakesConfig name (Err status) files_old files_new × GainsNothing held_old held_new)
    ⊎ MigratesBy name text status files_old files_new held_old held_new
