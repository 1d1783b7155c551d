-- The entries of an array of tables, each read with those before it.
use Rattle.std.specs.Prelude.{List, [], ◌∷◌, ◌++◌, Result, Ok}
use Rattle.toml.specs.Data.{Data, Items, no_items, item}
use Rattle.conf_fields.specs.Chain.{◌>>=◌}
use Rattle.conf_fields.specs.declared.fault.ConfFault.{ConfFault}

-- `one done d` reads the entry d, where `done` are the entries before it
abbrev pub entries_of : {A : Type 0} → (List A → Data → Result A ConfFault) → List A → Items → Result (List A) ConfFault
entries_of one done no_items = Ok done
entries_of one done (item d ds) = one done d >>= (λ x. entries_of one (done ++ x ∷ []) ds)
