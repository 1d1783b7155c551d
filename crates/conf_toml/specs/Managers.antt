-- The managers of a configuration. `root` is there already, with the number 0.
use Rattle.std.specs.Prelude.{ℕ, List, [], ◌∷◌, codes, length, map, Result, Ok}
use Rattle.poa_base.specs.declared.ManagerConf.{ManagerConf}
use Rattle.poa_base.specs.declared.ManagerState.TheVariants.{Holding}
use Rattle.text_words.specs.Name.{name_of}
use Rattle.toml.specs.Data.{Data, Members}
use Rattle.conf_fields.specs.Chain.{◌>>=◌}
use Rattle.conf_fields.specs.Entries.{entries_of}
use Rattle.conf_fields.specs.Look.{wanted, with_default, text_in, only_known, table_in, entries_at}
use Rattle.conf_fields.specs.Numbers.{Find, place_of, not_twice}
use Rattle.conf_fields.specs.Words.{state_of}
use Rattle.conf_fields.specs.declared.ConfFault.{ConfFault}
use Rattle.conf_fields.specs.declared.Place.{Place}
use Rattle.conf_fields.specs.declared.Place.TheVariants.{Top, Manager}

-- a manager, whose name is none of those found
unfoldable pub manager_at : Place → Find → Members → Result ManagerConf ConfFault
manager_at at find ms = do
  name ← wanted (text_in name_of) at (codes "name") ms
  new ← not_twice find at (codes "name") name
  start ← with_default (text_in state_of) Holding at (codes "start") ms
  known ← only_known (codes "name" ∷ codes "start" ∷ []) at ms
  Ok (record { name = name; start = start })

abbrev pub manager_in : Place → Find → Data → Result ManagerConf ConfFault
manager_in at find d = table_in at d >>= manager_at at find

-- the names of all managers, in the order of their numbers
abbrev pub manager_names : List ManagerConf → List (List ℕ)
manager_names managers = codes "root" ∷ map (λ m. m.name) managers

abbrev pub manager_after : List ManagerConf → Data → Result ManagerConf ConfFault
manager_after done d = manager_in (Manager (length done)) (place_of (manager_names done)) d

unfoldable pub managers_of : Members → Result (List ManagerConf) ConfFault
managers_of ms = do
  ds ← entries_at 1024 Top (codes "manager") ms
  entries_of manager_after [] ds
