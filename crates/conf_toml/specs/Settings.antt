-- The keys of a configuration's top table that aren't arrays of tables.
use Rattle.std.specs.Prelude.{ℕ, List, [], ◌∷◌, codes, Result, Ok}
use Rattle.poa_base.specs.declared.ManagerState.TheVariants.{Holding}
use Rattle.text_words.specs.Name.{host_of}
use Rattle.toml.specs.Data.{Members}
use Rattle.conf_fields.specs.Chain.{◌>>=◌}
use Rattle.conf_fields.specs.Look.{with_default, text_in, number_in, only_known}
use Rattle.conf_fields.specs.Words.{state_of}
use Rattle.conf_fields.specs.declared.ConfFault.{ConfFault}
use Rattle.conf_fields.specs.declared.Place.TheVariants.{Top}
use Rattle.conf_toml.specs.declared.settings.Settings.{Settings}

-- the keys of the top table
unfoldable pub top_keys : List (List ℕ)
top_keys =
    codes "run" ∷ codes "host" ∷ codes "port" ∷ codes "admin_port" ∷ codes "gate_ms" ∷ codes "root" ∷ codes "manager" ∷ codes
    "servant" ∷ codes "adapter" ∷ codes "object" ∷ codes "forward" ∷ []

unfoldable pub settings_of : Members → Result Settings ConfFault
settings_of ms = do
  run ← with_default (number_in 0 4294967295) 1 Top (codes "run") ms
  host ← with_default (text_in host_of) (codes "127.0.0.1") Top (codes "host") ms
  port ← with_default (number_in 1 65535) 2809 Top (codes "port") ms
  admin_port ← with_default (number_in 1 65535) 2810 Top (codes "admin_port") ms
  gate_ms ← with_default (number_in 0 10000) 0 Top (codes "gate_ms") ms
  root ← with_default (text_in state_of) Holding Top (codes "root") ms
  known ← only_known top_keys Top ms
  Ok (record { run = run; host = host; port = port; admin_port = admin_port; gate_ms = gate_ms; root = root })
