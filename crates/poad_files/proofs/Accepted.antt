-- A text that is a configuration isn't refused. Whether it is one is computed where the text is known.
use Rattle.std.proofs.Common.{◌≡◌, ◌≢◌, ℕ, List, Bool, true, false, Option, None, Some, inl, inr, refl, sym, ◌∙◌, subst}
use Rattle.std.specs.Prelude.{Result, Ok, Err, IsUtf8, is_ok, ⊤}
use Rattle.std.proofs.lemmas.Option.{same_Some}
use Rattle.poa_base.specs.declared.Config.{Config}
use Rattle.toml.specs.Data.{Members}
use Rattle.toml.specs.Parse.{parse_document}
use Rattle.toml.proofs.OnLiterals.{toml_on_literals}
use Rattle.conf_fields.specs.FieldGives.{IsFault}
use Rattle.conf_fields.specs.declared.ConfFault.{ConfFault}
use Rattle.conf_fields.specs.declared.ConfFault.TheVariants as conf
use Rattle.conf_fields.specs.Look.{is_among}
use Rattle.conf_fields.specs.Numbers.{number_named}
use Rattle.conf_fields.specs.Paths.{path_at}
use Rattle.conf_fields.specs.Place.{table_path, key_path}
use Rattle.conf_fields.specs.Words.{state_of, kind_of, children_of, exception_of, policy_of}
use Rattle.poa_policy.specs.Settled.{settled}
use Rattle.conf_toml.specs.Settings.{top_keys, settings_of}
use Rattle.conf_toml.specs.Managers.{manager_at, managers_of}
use Rattle.conf_toml.specs.Servants.{opening, servant_at, servants_of}
use Rattle.conf_toml.specs.Policies.{policies_at}
use Rattle.conf_toml.specs.Rules.{matched, way_of, no_other, not_raised, fresh_at, servant_given, forward_given, raise_given, rule_keys, rule_at, rule_in, rules_at}
use Rattle.conf_toml.specs.Tags.{tag_at, old_keys_at}
use Rattle.conf_toml.specs.Adapters.{adapter_keys, parent_text, boot_at, manager_number, preset_at, root_at, template_at, adapter_at, adapters_of}
use Rattle.conf_toml.specs.Objects.{home_below, id_at, id_text, servant_text, object_at, objects_of}
use Rattle.conf_toml.specs.Forwards.{forward_at, forwards_of}
use Rattle.conf_toml.specs.Configuration.{config_of, ReadAs}
use Rattle.poad_files.specs.Taking.{IsAccepted, ReadsAccepted, ReadsConfig}
use Rattle.poad_files.specs.declared.status.Status.{Status}
use Rattle.poad_files.specs.declared.status.Status.TheVariants as status

-- what is meant is a configuration or a fault, and not both
not_both : (fault : ConfFault) (meant : Result Config ConfFault) (c : Config) → meant ≡ Ok c → IsFault fault meant → fault ≢ conf.WantMemory → ⊥
not_both conf.WantMemory meant c is f known = known refl
not_both conf.NotToml meant c is f known = let x : Ok c ≡ Err conf.NotToml = sym is ∙ f in cc
not_both (conf.Field path) meant c is f known = let x : Ok c ≡ Err (conf.Field path) = sym is ∙ f in cc
not_both (conf.Policy adapter index) meant c is f known = let x : Ok c ≡ Err (conf.Policy adapter index) = sym is ∙ f in cc
not_both (conf.Twice path) meant c is f known = let x : Ok c ≡ Err (conf.Twice path) = sym is ∙ f in cc
not_both (conf.NoSuch path) meant c is f known = let x : Ok c ≡ Err (conf.NoSuch path) = sym is ∙ f in cc
not_both (conf.Limit what) meant c is f known = let x : Ok c ≡ Err (conf.Limit what) = sym is ∙ f in cc

read_once : (content : List ℕ) (c : Config) (fault : ConfFault) → ReadAs content (Ok c) → ReadAs content (Err fault) → fault ≢ conf.WantMemory → ⊥
read_once content c fault (inl is) r known = let x : Ok c ≡ Err conf.WantMemory = is in cc
read_once content c fault (inr (inr (none, is))) r known = let x : Ok c ≡ Err conf.NotToml = is in cc
read_once content c fault (inr (inl d)) (inl is) known = known (let x : Err fault ≡ Err conf.WantMemory = is in cc)
read_once content c fault (inr (inl d)) (inr (inl e)) known =
    let same : d.table ≡ e.table = same_Some _ _ (sym d.document.1 ∙ e.document.1) in
    not_both fault (config_of e.table) c (subst (λ (t : Members). config_of t ≡ Ok c) same d.gives) e.gives known
read_once content c fault (inr (inl d)) (inr (inr (none, is))) known = let x : None ≡ Some d.table = sym (none d.document.0) ∙ d.document.1 in cc

pub reads_accepted : (content : List ℕ) → IsAccepted content → (r : Result Config Status) → ReadsConfig content r → ReadsAccepted content r
reads_accepted content accepted (Ok config) reads = reads
reads_accepted content accepted (Err (status.ConfigRefused fault)) reads = read_once content accepted.0 fault accepted.1 reads.0 reads.1
reads_accepted content accepted (Err status.WantMemory) reads = tt
reads_accepted content accepted (Err _) reads = reads

-- whether the text is a configuration
abbrev table_is_config : Option Members → Bool
table_is_config None = false
table_is_config (Some table) = is_ok (config_of table)

abbrev pub is_config : List ℕ → Bool
is_config content = table_is_config (parse_document content)

accepted_config : (content : List ℕ) (table : Members) (meant : Result Config ConfFault) → config_of table ≡ meant
    → parse_document content ≡ Some table → IsUtf8 content → is_ok meant ≡ true → IsAccepted content
accepted_config content table (Ok c) meant parsed text ok = (c, inr (inl (record { table = table; document = (text, parsed); gives = meant })))
accepted_config content table (Err fault) meant parsed text ok = absurd (let x : false ≡ true = ok in cc)

accepted_table : (content : List ℕ) (read : Option Members) → parse_document content ≡ read → IsUtf8 content
    → table_is_config read ≡ true → IsAccepted content
accepted_table content None parsed text ok = absurd (let x : false ≡ true = ok in cc)
accepted_table content (Some table) parsed text ok = accepted_config content table (config_of table) refl parsed text ok

pub accepted : (content : List ℕ) → IsUtf8 content → is_config content ≡ true → IsAccepted content
accepted content text ok = accepted_table content (parse_document content) refl text ok

-- what computes that of a known text
unfoldable pub config_on_literals : ⊤
unfolding toml_on_literals lib.Utf8.encode config_of settings_of top_keys managers_of manager_at servants_of servant_at opening adapters_of adapter_at template_at root_at adapter_keys boot_at parent_text manager_number preset_at tag_at old_keys_at policies_at settled rules_at rule_in rule_at rule_keys matched way_of no_other not_raised fresh_at servant_given forward_given raise_given objects_of object_at home_below id_at id_text servant_text forwards_of forward_at path_at number_named is_among table_path key_path state_of kind_of children_of exception_of policy_of
config_on_literals = tt
