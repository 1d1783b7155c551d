-- The servants of a configuration, each with the state in which it starts.
use Rattle.std.specs.Prelude.{ℕ, pos, List, [], ◌∷◌, codes, length, map, Result, Ok}
use Rattle.poa_base.specs.declared.Kind.{Kind}
use Rattle.poa_base.specs.declared.Kind.TheVariants as kind
use Rattle.poa_base.specs.declared.State.{State}
use Rattle.poa_base.specs.declared.State.TheVariants as state
use Rattle.poa_base.specs.declared.ServantConf.{ServantConf}
use Rattle.text_words.specs.Name.{name_of}
use Rattle.toml.specs.Data.{Data, Members, as_integer}
use Rattle.conf_fields.specs.Chain.{◌>>=◌}
use Rattle.conf_fields.specs.Entries.{entries_of}
use Rattle.conf_fields.specs.Look.{wanted, with_default, text_in, none_of, only_known, table_in, entries_at}
use Rattle.conf_fields.specs.Numbers.{Find, place_of, not_twice}
use Rattle.conf_fields.specs.Words.{kind_of}
use Rattle.conf_fields.specs.declared.ConfFault.{ConfFault}
use Rattle.conf_fields.specs.declared.Place.{Place}
use Rattle.conf_fields.specs.declared.Place.TheVariants.{Top, Servant}

-- a servant that isn't a register has no value
abbrev pub without_value : State → Place → Members → Result State ConfFault
without_value state at ms = do
  none ← none_of (codes "value" ∷ []) at ms
  Ok state

-- a register starts with its value
abbrev pub register_opening : Place → Members → Result State ConfFault
register_opening at ms = do
  value ← with_default as_integer (pos 0) at (codes "value") ms
  Ok (state.Register value)

-- the state in which a servant of the kind starts
unfoldable pub opening : Kind → Place → Members → Result State ConfFault
opening kind.Register at ms = register_opening at ms
opening kind.Log at ms = without_value (state.Book []) at ms
opening kind.Echo at ms = without_value state.Echo at ms
opening kind.Fault at ms = without_value state.Fault at ms

-- a servant, whose name is none of those found
unfoldable pub servant_at : Place → Find → Members → Result ServantConf ConfFault
servant_at at find ms = do
  name ← wanted (text_in name_of) at (codes "name") ms
  new ← not_twice find at (codes "name") name
  kind ← wanted (text_in kind_of) at (codes "kind") ms
  state ← opening kind at ms
  known ← only_known (codes "name" ∷ codes "kind" ∷ codes "value" ∷ []) at ms
  Ok (record { name = name; state = state })

abbrev pub servant_in : Place → Find → Data → Result ServantConf ConfFault
servant_in at find d = table_in at d >>= servant_at at find

abbrev pub servant_names : List ServantConf → List (List ℕ)
servant_names servants = map (λ s. s.name) servants

abbrev pub servant_after : List ServantConf → Data → Result ServantConf ConfFault
servant_after done d = servant_in (Servant (length done)) (place_of (servant_names done)) d

unfoldable pub servants_of : Members → Result (List ServantConf) ConfFault
servants_of ms = do
  ds ← entries_at 1024 Top (codes "servant") ms
  entries_of servant_after [] ds
