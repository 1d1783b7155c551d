-- The endpoint table of a configuration.
use Rattle.std.specs.Prelude.{ℕ, List, [], ◌∷◌, codes, length, map, Result, Ok}
use Rattle.poa_base.specs.declared.ForwardConf.{ForwardConf}
use Rattle.text_words.specs.Name.{host_of}
use Rattle.text_words.specs.Path.{path_text}
use Rattle.toml.specs.Data.{Data, Members}
use Rattle.conf_fields.specs.Chain.{◌>>=◌}
use Rattle.conf_fields.specs.Entries.{entries_of}
use Rattle.conf_fields.specs.Look.{wanted, text_in, number_in, only_known, table_in, entries_at}
use Rattle.conf_fields.specs.Numbers.{Find, place_of, not_twice}
use Rattle.conf_fields.specs.Paths.{path_at}
use Rattle.conf_fields.specs.declared.ConfFault.{ConfFault}
use Rattle.conf_fields.specs.declared.Place.{Place}
use Rattle.conf_fields.specs.declared.Place.TheVariants.{Top, Forward}

-- an entry, whose path is none of those found
unfoldable pub forward_at : Place → Find → Members → Result ForwardConf ConfFault
forward_at at find ms = do
  path ← path_at at (codes "path") ms
  new ← not_twice find at (codes "path") (path_text path)
  host ← wanted (text_in host_of) at (codes "host") ms
  port ← wanted (number_in 1 65535) at (codes "port") ms
  known ← only_known (codes "path" ∷ codes "host" ∷ codes "port" ∷ []) at ms
  Ok (record { path = path; endpoint = record { host = host; port = port } })

abbrev pub forward_in : Place → Find → Data → Result ForwardConf ConfFault
forward_in at find d = table_in at d >>= forward_at at find

abbrev pub forward_paths : List ForwardConf → List (List ℕ)
forward_paths forwards = map (λ f. path_text f.path) forwards

abbrev pub forward_after : List ForwardConf → Data → Result ForwardConf ConfFault
forward_after done d = forward_in (Forward (length done)) (place_of (forward_paths done)) d

unfoldable pub forwards_of : Members → Result (List ForwardConf) ConfFault
forwards_of ms = do
  ds ← entries_at 1024 Top (codes "forward") ms
  entries_of forward_after [] ds
