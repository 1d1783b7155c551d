-- The rules of a servant manager in a configuration.
use Rattle.std.specs.Prelude.{ℕ, Bool, true, false, ◌||◌, List, [], ◌∷◌, codes, length, Option, Some, None, is_some, Result, Ok, Err, if◌then◌else◌}
use Rattle.std.specs.Option.{option_map}
use Rattle.std.specs.Str.{bytes_eq}
use Rattle.poa_base.specs.Minors.{completion_of}
use Rattle.poa_base.specs.declared.Gives.{Gives}
use Rattle.poa_base.specs.declared.Gives.TheVariants as gives
use Rattle.poa_base.specs.declared.PolicySet.{PolicySet}
use Rattle.poa_base.specs.declared.RuleConf.{RuleConf}
use Rattle.poa_base.specs.Policies.{is_retain, is_servant_manager}
use Rattle.text_words.specs.Identity.{id_of}
use Rattle.text_words.specs.Name.{host_of}
use Rattle.toml.specs.Data.{Data, Items, no_items, item, Members, get_member}
use Rattle.conf_fields.specs.Chain.{◌>>=◌}
use Rattle.conf_fields.specs.Entries.{entries_of}
use Rattle.conf_fields.specs.Look.{wanted, with_default, text_in, number_in, none_of, only_if, only_known, table_in, items_at, at_most}
use Rattle.conf_fields.specs.Numbers.{Find, number_named}
use Rattle.conf_fields.specs.Place.{key_path}
use Rattle.conf_fields.specs.Words.{kind_of, exception_of}
use Rattle.conf_fields.specs.declared.ConfFault.{ConfFault}
use Rattle.conf_fields.specs.declared.ConfFault.TheVariants as fault
use Rattle.conf_fields.specs.declared.Place.{Place}
use Rattle.conf_fields.specs.declared.Place.TheVariants.{Adapter, Rule}
use Rattle.conf_toml.specs.declared.rule.Way.{Way}
use Rattle.conf_toml.specs.declared.rule.Way.TheVariants as way

-- which objects the rule is for: `*` for all, else those with this id
unfoldable pub matched : List ℕ → Option (Option (List ℕ))
matched w = if bytes_eq w (codes "*") then Some None else option_map Some (id_of w)

-- the way that the keys of a rule choose
abbrev pub has : List ℕ → Members → Bool
has key ms = is_some (get_member key ms)

unfoldable pub way_of : Members → Way
way_of ms =
    if has (codes "fresh") ms then way.Fresh else (
    if has (codes "servant") ms then way.Servant else (
    if has (codes "forward_host") ms || has (codes "forward_port") ms then way.Forward else (
    if has (codes "raise") ms || has (codes "minor") ms then way.Raise else way.Missing)))

-- the keys of the other ways aren't there
unfoldable pub no_other : Place → Members → Result (Unit {0}) ConfFault
no_other at ms = none_of (codes "servant" ∷ codes "forward_host" ∷ codes "forward_port" ∷ codes "raise" ∷ codes "minor" ∷ []) at ms

unfoldable pub not_raised : Place → Members → Result (Unit {0}) ConfFault
not_raised at ms = none_of (codes "raise" ∷ codes "minor" ∷ []) at ms

-- what the rule gives: a new servant of a kind
unfoldable pub fresh_at : Place → PolicySet → Members → Result Gives ConfFault
fresh_at at policies ms = do
  kind ← wanted (text_in kind_of) at (codes "fresh") ms
  retained ← only_if (is_retain policies.retention) at (codes "fresh")
  alone ← no_other at ms
  Ok (gives.Fresh kind)

-- a configured servant
unfoldable pub servant_given : Place → Find → Members → Result Gives ConfFault
servant_given at servants ms = do
  servant ← number_named servants at (codes "servant") ms
  alone ← none_of (codes "forward_host" ∷ codes "forward_port" ∷ codes "raise" ∷ codes "minor" ∷ []) at ms
  Ok (gives.Servant servant)

-- a forward
unfoldable pub forward_given : Place → Members → Result Gives ConfFault
forward_given at ms = do
  host ← wanted (text_in host_of) at (codes "forward_host") ms
  port ← wanted (number_in 1 65535) at (codes "forward_port") ms
  alone ← not_raised at ms
  Ok (gives.Forward (record { host = host; port = port }))

-- a system exception
unfoldable pub raise_given : Place → Members → Result Gives ConfFault
raise_given at ms = do
  name ← wanted (text_in exception_of) at (codes "raise") ms
  minor ← with_default (number_in 0 4294967295) 0 at (codes "minor") ms
  Ok (gives.Raise (record { name = name; minor = minor; done = completion_of minor }))

abbrev pub given_by : Way → Place → Find → PolicySet → Members → Result Gives ConfFault
given_by way.Fresh at servants policies ms = fresh_at at policies ms
given_by way.Servant at servants policies ms = servant_given at servants ms
given_by way.Forward at servants policies ms = forward_given at ms
given_by way.Raise at servants policies ms = raise_given at ms
given_by way.Missing at servants policies ms = Err (fault.Field (key_path at (codes "fresh")))

-- the keys of a rule
unfoldable pub rule_keys : List (List ℕ)
rule_keys = codes "id" ∷ codes "fresh" ∷ codes "servant" ∷ codes "forward_host" ∷ codes "forward_port" ∷ codes "raise" ∷ codes "minor" ∷ []

-- a rule, with the servants by their names and the policies of its adapter
unfoldable pub rule_at : Place → Find → PolicySet → Members → Result RuleConf ConfFault
rule_at at servants policies ms = do
  oid ← wanted (text_in matched) at (codes "id") ms
  given ← given_by (way_of ms) at servants policies ms
  known ← only_known rule_keys at ms
  Ok (record { oid = oid; gives = given })

unfoldable pub rule_in : Place → Find → PolicySet → Data → Result RuleConf ConfFault
rule_in at servants policies d = table_in at d >>= rule_at at servants policies

abbrev pub rule_after : ℕ → Find → PolicySet → List RuleConf → Data → Result RuleConf ConfFault
rule_after i servants policies done d = rule_in (Rule i (length done)) servants policies d

abbrev pub is_empty : Items → Bool
is_empty no_items = true
is_empty (item d ds) = false

-- the rules of the adapter with the index; only with USE_SERVANT_MANAGER there may be any
unfoldable pub rules_at : ℕ → Find → PolicySet → Members → Result (List RuleConf) ConfFault
rules_at i servants policies ms = do
  ds ← items_at (Adapter i) (codes "rule") ms
  allowed ← only_if (is_empty ds || is_servant_manager policies.processing) (Adapter i) (codes "rule")
  few ← at_most 1024 (Adapter i) (codes "rule") ds
  entries_of (rule_after i servants policies) [] few
