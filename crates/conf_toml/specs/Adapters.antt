-- The adapters of a configuration.
use Rattle.std.specs.Prelude.{ℕ, Bool, true, false, not, ◌||◌, ◌==◌, List, [], ◌∷◌, codes, length, map, Option, Some, None, Result, Ok, if◌then◌else◌}
use Rattle.std.specs.List.{slice_get, list_any}
use Rattle.poa_base.specs.declared.AdapterConf.{AdapterConf}
use Rattle.poa_base.specs.declared.PolicySet.{PolicySet}
use Rattle.poa_base.specs.Policies.{is_default_servant}
use Rattle.poa_policy.specs.Rules.{defaults}
use Rattle.text_words.specs.Path.{path_text}
use Rattle.toml.specs.Data.{Data, Members, as_bool}
use Rattle.conf_fields.specs.Chain.{◌>>=◌}
use Rattle.conf_fields.specs.Entries.{entries_of}
use Rattle.conf_fields.specs.Look.{maybe, with_default, text_in, none_of, only_if, only_known, table_in, entries_at}
use Rattle.conf_fields.specs.Numbers.{Find, place_of, not_twice, number_named}
use Rattle.conf_fields.specs.Paths.{path_at}
use Rattle.conf_fields.specs.Words.{children_of}
use Rattle.conf_fields.specs.declared.ConfFault.{ConfFault}
use Rattle.conf_fields.specs.declared.Place.{Place}
use Rattle.conf_fields.specs.declared.Place.TheVariants.{Top, Adapter}
use Rattle.conf_toml.specs.Policies.{policies_at}
use Rattle.conf_toml.specs.Rules.{has, rules_at}
use Rattle.conf_toml.specs.Tags.{tag_at, old_keys_at}

-- the keys of an adapter
unfoldable pub adapter_keys : List (List ℕ)
adapter_keys = codes "path" ∷ codes "policies" ∷ codes "manager" ∷ codes "boot" ∷ codes "children" ∷ codes "default" ∷ codes "tag" ∷ codes "old_keys" ∷ codes "rule" ∷ []

-- the text of a path before its last `/`: its parent's path, and nothing for a child of the root
unfoldable pub parent_text : List ℕ → List ℕ
parent_text [] = []
parent_text (c ∷ cs) = if list_any (λ b. b == 47) cs then c ∷ parent_text cs else []

-- whether the entry at the place is created at the start
abbrev pub is_boot : Option AdapterConf → Bool
is_boot None = false
is_boot (Some a) = a.boot

abbrev pub boots_at : List AdapterConf → Option ℕ → Bool
boots_at done None = false
boots_at done (Some k) = is_boot (slice_get done k)

-- the parent is the root, or an entry listed before that is created at the start
abbrev pub parent_boots : Find → List AdapterConf → List ℕ → Bool
parent_boots find done [] = true
parent_boots find done (c ∷ cs) = boots_at done (find (c ∷ cs))

-- whether the adapter is created at the start
unfoldable pub boot_at : Place → Find → List AdapterConf → List ℕ → Members → Result Bool ConfFault
boot_at at find done text ms = do
  boot ← with_default as_bool false at (codes "boot") ms
  rooted ← only_if (not boot || parent_boots find done (parent_text text)) at (codes "boot")
  Ok boot

-- the number of its manager
unfoldable pub manager_number : Place → Find → Members → Result ℕ ConfFault
manager_number at managers ms = if has (codes "manager") ms then number_named managers at (codes "manager") ms else Ok 0

-- the number of its default servant, only with USE_DEFAULT_SERVANT
abbrev pub preset_given : Place → Find → PolicySet → Members → Result (Option ℕ) ConfFault
preset_given at servants policies ms = do
  allowed ← only_if (is_default_servant policies.processing) at (codes "default")
  servant ← number_named servants at (codes "default") ms
  Ok (Some servant)

unfoldable pub preset_at : Place → Find → PolicySet → Members → Result (Option ℕ) ConfFault
preset_at at servants policies ms = if has (codes "default") ms then preset_given at servants policies ms else Ok None

-- the entry for the root may give `children` alone
unfoldable pub root_at : Place → Members → Result AdapterConf ConfFault
root_at at ms = do
  plain ← none_of (codes "policies" ∷ codes "manager" ∷ codes "boot" ∷ []) at ms
  children ← maybe (text_in children_of) at (codes "children") ms
  bare ← none_of (codes "default" ∷ codes "tag" ∷ codes "old_keys" ∷ codes "rule" ∷ []) at ms
  known ← only_known adapter_keys at ms
  Ok (record { path = []; policies = defaults; manager = 0; boot = false; children = children; preset = None; rules = []; tag = 0; old_keys = true })

-- every other entry
unfoldable pub template_at : ℕ → List (List ℕ) → Find → Find → Find → List AdapterConf → Members → Result AdapterConf ConfFault
template_at i path managers servants find done ms = do
  policies ← policies_at (Adapter i) path ms
  manager ← manager_number (Adapter i) managers ms
  boot ← boot_at (Adapter i) find done (path_text path) ms
  children ← maybe (text_in children_of) (Adapter i) (codes "children") ms
  preset ← preset_at (Adapter i) servants policies ms
  tag ← tag_at (Adapter i) policies ms
  old_keys ← old_keys_at (Adapter i) policies ms
  rules ← rules_at i servants policies ms
  known ← only_known adapter_keys (Adapter i) ms
  Ok (record { path = path; policies = policies; manager = manager; boot = boot; children = children; preset = preset; rules = rules; tag = tag; old_keys = old_keys })

abbrev pub entry_at : List (List ℕ) → ℕ → Find → Find → Find → List AdapterConf → Members → Result AdapterConf ConfFault
entry_at [] i managers servants find done ms = root_at (Adapter i) ms
entry_at (n ∷ ns) i managers servants find done ms = template_at i (n ∷ ns) managers servants find done ms

unfoldable pub adapter_at : ℕ → Find → Find → Find → List AdapterConf → Members → Result AdapterConf ConfFault
adapter_at i managers servants find done ms = do
  path ← path_at (Adapter i) (codes "path") ms
  new ← not_twice find (Adapter i) (codes "path") (path_text path)
  entry_at path i managers servants find done ms

abbrev pub adapter_in : ℕ → Find → Find → Find → List AdapterConf → Data → Result AdapterConf ConfFault
adapter_in i managers servants find done d = table_in (Adapter i) d >>= adapter_at i managers servants find done

abbrev pub adapter_paths : List AdapterConf → List (List ℕ)
adapter_paths adapters = map (λ a. path_text a.path) adapters

abbrev pub adapter_after : Find → Find → List AdapterConf → Data → Result AdapterConf ConfFault
adapter_after managers servants done d = adapter_in (length done) managers servants (place_of (adapter_paths done)) done d

unfoldable pub adapters_of : Find → Find → Members → Result (List AdapterConf) ConfFault
adapters_of managers servants ms = do
  ds ← entries_at 1024 Top (codes "adapter") ms
  entries_of (adapter_after managers servants) [] ds
