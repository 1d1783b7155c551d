-- What is printed of the configuration that a text is.
use Rattle.std.specs.Prelude.{◌≡◌, ◌⊎◌, ℕ, List, Result, Ok, Err}
use Rattle.poa_base.specs.declared.Config.{Config}
use Rattle.conf_fields.specs.declared.ConfFault.{ConfFault}
use Rattle.conf_fields.specs.declared.ConfFault.TheVariants.{WantMemory}
use Rattle.conf_toml.specs.Configuration.{ReadAs}
use Rattle.poad_files.specs.Counts.{counts_text}
use Rattle.poad_files.specs.Objects.{references_text}
use Rattle.poad_files.specs.declared.printing.Asked.{Asked}
use Rattle.poad_files.specs.declared.printing.Asked.TheVariants.{Counts, References}

abbrev pub text_of : Asked → Config → List ℕ
text_of Counts c = counts_text c
text_of References c = references_text c

-- the bytes are read as a configuration, of which this is printed
pub record PrintsText (asked : Asked) (bytes text : List ℕ) : Type 0 where
  pub config : Config
  pub read : ReadAs bytes (Ok config)
  pub printed : text ≡ text_of asked config

-- or they are read with a fault
abbrev pub ConfPrints : Asked → List ℕ → Result (List ℕ) ConfFault → Type 0
ConfPrints asked bytes (Ok text) = PrintsText asked bytes text
ConfPrints asked bytes (Err fault) = (fault ≡ WantMemory) ⊎ ReadAs bytes (Err fault)
