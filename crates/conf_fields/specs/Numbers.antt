-- Names turned into numbers. A `Find` is what some entries say of a name: its number, if it stands there.
use Rattle.std.specs.Prelude.{◌≡◌, ℕ, ◌+◌, List, [], ◌∷◌, Option, Some, None, Result, Ok, Err, if◌then◌else◌, String}
use Rattle.std.specs.Option.{option_map}
use Rattle.std.specs.Str.{bytes_eq}
use Rattle.std.specs.BTreeMap.{BTreeMap, get_by_text}
use Rattle.std.specs.declared.alloc.Global.{Global}
use Rattle.text_words.specs.Name.{name_of}
use Rattle.toml.specs.Data.{Members}
use Rattle.conf_fields.specs.Chain.{◌>>=◌}
use Rattle.conf_fields.specs.Look.{wanted, text_in}
use Rattle.conf_fields.specs.Place.{key_path}
use Rattle.conf_fields.specs.declared.fault.ConfFault.{ConfFault}
use Rattle.conf_fields.specs.declared.fault.ConfFault.TheVariants.{Twice, NoSuch}
use Rattle.conf_fields.specs.declared.place.Place.{Place}

abbrev pub Find : Type 0
Find = List ℕ → Option ℕ

-- the place of a name among others
abbrev pub place_of : List (List ℕ) → Find
place_of [] q = None
place_of (n ∷ ns) q = if bytes_eq n q then Some 0 else option_map (λ i. i + 1) (place_of ns q)

-- whether a text stands among others: 0 where it does
abbrev pub seen_of : List (List ℕ) → Find
seen_of [] q = None
seen_of (n ∷ ns) q = if bytes_eq n q then Some 0 else seen_of ns q

-- one more name with its number
abbrev pub noted : List ℕ → ℕ → Find → Find
noted name n find q = if bytes_eq name q then Some n else find q

-- what a map of names says
unfoldable pub find_in : BTreeMap (String Global) ℕ → Find
find_in numbers q = get_by_text numbers q

-- Twice at the key where the name stands there
abbrev pub unless_found : Place → List ℕ → Option ℕ → Result (Unit {0}) ConfFault
unless_found at key None = Ok tt
unless_found at key (Some n) = Err (Twice (key_path at key))

abbrev pub not_twice : Find → Place → List ℕ → List ℕ → Result (Unit {0}) ConfFault
not_twice find at key name = unless_found at key (find name)

-- NoSuch at the key where it doesn't
abbrev pub or_no_such : Place → List ℕ → Option ℕ → Result ℕ ConfFault
or_no_such at key (Some n) = Ok n
or_no_such at key None = Err (NoSuch (key_path at key))

-- some name has the number
pub record IsNumber (find : Find) (n : ℕ) : Type 0 where
  pub name : List ℕ
  pub is : find name ≡ Some n

-- the number of the name at a key
unfoldable pub number_named : Find → Place → List ℕ → Members → Result ℕ ConfFault
number_named find at key ms = do
  name ← wanted (text_in name_of) at key ms
  or_no_such at key (find name)
