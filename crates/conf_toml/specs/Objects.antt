-- The objects of a configuration.
use Rattle.std.specs.Prelude.{ℕ, ◌&&◌, List, [], ◌∷◌, ◌++◌, codes, decimal, length, map, Option, Some, None, Result, Ok, Err, if◌then◌else◌}
use Rattle.std.specs.List.{slice_get, flat_map}
use Rattle.hex.specs.Hex.{encode_lower}
use Rattle.poa_base.specs.declared.limits.TheConstants.{OBJECTS}
use Rattle.poa_base.specs.declared.AdapterConf.{AdapterConf}
use Rattle.poa_base.specs.declared.ObjectConf.{ObjectConf}
use Rattle.poa_base.specs.declared.PolicySet.{PolicySet}
use Rattle.poa_base.specs.Policies.{is_retain, is_system_id, is_multiple_id}
use Rattle.poa_policy.specs.Rules.{defaults}
use Rattle.text_words.specs.Identity.{id_of}
use Rattle.text_words.specs.Path.{path_text}
use Rattle.toml.specs.Data.{Data, Members}
use Rattle.conf_fields.specs.Chain.{◌>>=◌}
use Rattle.conf_fields.specs.Entries.{entries_of}
use Rattle.conf_fields.specs.Look.{wanted, text_in, none_of, only_if, only_known, table_in, entries_at}
use Rattle.conf_fields.specs.Numbers.{Find, seen_of, not_twice, number_named, or_no_such}
use Rattle.conf_fields.specs.Paths.{path_at}
use Rattle.conf_fields.specs.Place.{key_path}
use Rattle.conf_fields.specs.declared.ConfFault.{ConfFault}
use Rattle.conf_fields.specs.declared.ConfFault.TheVariants.{NoSuch}
use Rattle.conf_fields.specs.declared.Place.{Place}
use Rattle.conf_fields.specs.declared.Place.TheVariants.{Top, Object}

-- the policies of the adapter, which is created at the start and retains its servants
abbrev pub home_in : Place → Option AdapterConf → Result PolicySet ConfFault
home_in at None = Err (NoSuch (key_path at (codes "adapter")))
home_in at (Some a) = do
  fit ← only_if (a.boot && is_retain a.policies.retention) at (codes "adapter")
  Ok a.policies

unfoldable pub home_below : Place → Find → List AdapterConf → List ℕ → Result PolicySet ConfFault
home_below at find adapters path = do
  k ← or_no_such at (codes "adapter") (find path)
  home_in at (slice_get adapters k)

-- the policies of the adapter with the path; those of the root are the defaults, but for implicit activation
abbrev pub home_of : Place → Find → List AdapterConf → List (List ℕ) → Result PolicySet ConfFault
home_of at find adapters [] = Ok defaults
home_of at find adapters (n ∷ ns) = home_below at find adapters (path_text (n ∷ ns))

-- the object's id, absent exactly under SYSTEM_ID
abbrev pub no_id : Place → Members → Result (Option (List ℕ)) ConfFault
no_id at ms = do
  none ← none_of (codes "id" ∷ []) at ms
  Ok None

abbrev pub some_id : Place → Members → Result (Option (List ℕ)) ConfFault
some_id at ms = do
  id ← wanted (text_in id_of) at (codes "id") ms
  Ok (Some id)

unfoldable pub id_at : Place → PolicySet → Members → Result (Option (List ℕ)) ConfFault
id_at at policies ms = if is_system_id policies.assignment then no_id at ms else some_id at ms

-- how an object is told from others: by its adapter's path and its id, or by the path and its servant's number
unfoldable pub id_text : List ℕ → List ℕ → List ℕ
id_text path id = path ++ (codes " " ++ encode_lower id)

unfoldable pub servant_text : List ℕ → ℕ → List ℕ
servant_text path servant = path ++ (codes " " ++ decimal servant)

-- Twice where an object of the adapter has the id
abbrev pub new_id : Place → Find → List ℕ → Option (List ℕ) → Result (Unit {0}) ConfFault
new_id at ids path None = Ok tt
new_id at ids path (Some id) = not_twice ids at (codes "id") (id_text path id)

-- Twice where an object of an adapter with UNIQUE_ID has the servant
abbrev pub new_servant : Place → Find → PolicySet → List ℕ → ℕ → Result (Unit {0}) ConfFault
new_servant at taken policies path servant =
    if is_multiple_id policies.uniqueness then Ok tt else not_twice taken at (codes "servant") (servant_text path servant)

-- the objects, by their ids and by their servants
abbrev pub id_texts : List ℕ → Option (List ℕ) → List (List ℕ)
id_texts path None = []
id_texts path (Some id) = id_text path id ∷ []

abbrev pub ids_of : List ObjectConf → List (List ℕ)
ids_of objects = flat_map (λ o. id_texts (path_text o.adapter) o.oid) objects

abbrev pub taken_of : List ObjectConf → List (List ℕ)
taken_of objects = map (λ o. servant_text (path_text o.adapter) o.servant) objects

abbrev pub object_keys : List (List ℕ)
object_keys = codes "adapter" ∷ codes "id" ∷ codes "servant" ∷ []

-- an object, with the adapters by their paths, the servants by their names, and the objects before
unfoldable pub object_at : Place → Find → List AdapterConf → Find → Find → Find → Members → Result ObjectConf ConfFault
object_at at homes adapters servants ids taken ms = do
  path ← path_at at (codes "adapter") ms
  policies ← home_of at homes adapters path
  oid ← id_at at policies ms
  new ← new_id at ids (path_text path) oid
  servant ← number_named servants at (codes "servant") ms
  alone ← new_servant at taken policies (path_text path) servant
  known ← only_known object_keys at ms
  Ok (record { adapter = path; oid = oid; servant = servant })

abbrev pub object_in : Place → Find → List AdapterConf → Find → Find → Find → Data → Result ObjectConf ConfFault
object_in at homes adapters servants ids taken d = table_in at d >>= object_at at homes adapters servants ids taken

abbrev pub object_after : Find → List AdapterConf → Find → List ObjectConf → Data → Result ObjectConf ConfFault
object_after homes adapters servants done d =
    object_in (Object (length done)) homes adapters servants (seen_of (ids_of done)) (seen_of (taken_of done)) d

unfoldable pub objects_of : Find → List AdapterConf → Find → Members → Result (List ObjectConf) ConfFault
objects_of homes adapters servants ms = do
  ds ← entries_at OBJECTS Top (codes "object") ms
  entries_of (object_after homes adapters servants) [] ds
