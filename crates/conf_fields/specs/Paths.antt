-- Paths of adapters in a configuration.
use Rattle.std.specs.Prelude.{ℕ, List, length, nat_le, Result, Ok, Err, if◌then◌else◌}
use Rattle.toml.specs.Data.{Members}
use Rattle.text_words.specs.Path.{path_names_of}
use Rattle.conf_fields.specs.Chain.{◌>>=◌}
use Rattle.conf_fields.specs.Look.{wanted, text_in}
use Rattle.conf_fields.specs.Place.{key_path}
use Rattle.conf_fields.specs.declared.fault.ConfFault.{ConfFault}
use Rattle.conf_fields.specs.declared.fault.ConfFault.TheVariants.{Limit}
use Rattle.conf_fields.specs.declared.place.Place.{Place}

-- a path of at most 16 names
abbrev pub shallow : Place → List ℕ → List (List ℕ) → Result (List (List ℕ)) ConfFault
shallow at key names = if nat_le (length names) 16 then Ok names else Err (Limit (key_path at key))

-- a path that has to be there
unfoldable pub path_at : Place → List ℕ → Members → Result (List (List ℕ)) ConfFault
path_at at key ms = do
  names ← wanted (text_in path_names_of) at key ms
  shallow at key names
