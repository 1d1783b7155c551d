-- The configuration of a text.
use Rattle.std.specs.Prelude.{◌≡◌, ◌⊎◌, ℕ, List, Some, None, Result, Ok, Err, IsUtf8}
use Rattle.poa_base.specs.declared.Config.{Config}
use Rattle.toml.specs.Data.{Members}
use Rattle.toml.specs.Parse.{parse_document}
use Rattle.conf_fields.specs.Chain.{◌>>=◌}
use Rattle.conf_fields.specs.FieldGives.{FieldGives}
use Rattle.conf_fields.specs.Numbers.{place_of}
use Rattle.conf_fields.specs.declared.ConfFault.{ConfFault}
use Rattle.conf_fields.specs.declared.ConfFault.TheVariants.{NotToml, WantMemory}
use Rattle.conf_toml.specs.Managers.{managers_of, manager_names}
use Rattle.conf_toml.specs.Servants.{servants_of, servant_names}
use Rattle.conf_toml.specs.Adapters.{adapters_of, adapter_paths}
use Rattle.conf_toml.specs.Objects.{objects_of}
use Rattle.conf_toml.specs.Forwards.{forwards_of}
use Rattle.conf_toml.specs.Settings.{settings_of}

-- the configuration of a document's table: its keys, and then table by table
unfoldable pub config_of : Members → Result Config ConfFault
config_of ms = do
  settings ← settings_of ms
  managers ← managers_of ms
  servants ← servants_of ms
  adapters ← adapters_of (place_of (manager_names managers)) (place_of (servant_names servants)) ms
  objects ← objects_of (place_of (adapter_paths adapters)) adapters (place_of (servant_names servants)) ms
  forwards ← forwards_of ms
  Ok (record {
    run = settings.run;
    host = settings.host;
    port = settings.port;
    admin_port = settings.admin_port;
    gate_ms = settings.gate_ms;
    root = settings.root;
    managers = managers;
    servants = servants;
    adapters = adapters;
    objects = objects;
    forwards = forwards;
  })

-- the bytes are text, and a TOML document with this table
abbrev pub IsDocument : List ℕ → Members → Type 0
IsDocument bytes ms = IsUtf8 bytes × (parse_document bytes ≡ Some ms)

-- the bytes are no TOML document
abbrev pub IsNoDocument : List ℕ → Type 0
IsNoDocument bytes = IsUtf8 bytes → parse_document bytes ≡ None

-- the answer for a document with this table
pub record ReadAsDocument (bytes : List ℕ) (r : Result Config ConfFault) : Type 0 where
  pub table : Members
  pub document : IsDocument bytes table
  pub gives : FieldGives r (config_of table)

-- what bytes are read as: the configuration of their table or its first fault, and NotToml exactly where they are no document
abbrev pub ReadAs : List ℕ → Result Config ConfFault → Type 0
ReadAs bytes r = (r ≡ Err WantMemory) ⊎ ReadAsDocument bytes r ⊎ (IsNoDocument bytes × (r ≡ Err NotToml))
