-- What stands at a key of a table. Each reader gives the value, or the fault with the key's path.
use Rattle.std.specs.Prelude.{ℕ, suc, ℤ, pos, negsuc, nat_le, ◌&&◌, Bool, true, false, List, [], ◌∷◌, Option, Some, None, is_some, Result, Ok, Err, if◌then◌else◌}
use Rattle.std.specs.Option.{option_and_then, option_map}
use Rattle.std.specs.List.{list_any}
use Rattle.std.specs.Str.{bytes_eq}
use Rattle.toml.specs.Data.{Data, Items, no_items, item, Members, no_members, member, get_member, as_str, as_integer, as_array, as_table}
use Rattle.conf_fields.specs.Chain.{◌>>=◌}
use Rattle.conf_fields.specs.Place.{table_path, key_path}
use Rattle.conf_fields.specs.declared.fault.ConfFault.{ConfFault}
use Rattle.conf_fields.specs.declared.fault.ConfFault.TheVariants.{Field, Limit}
use Rattle.conf_fields.specs.declared.place.Place.{Place}

-- the value, or Field where there is none
abbrev pub or_field : {X : Type 0} → Place → List ℕ → Option X → Result X ConfFault
or_field at key (Some x) = Ok x
or_field at key None = Err (Field (key_path at key))

-- a key that has to be there
abbrev pub wanted : {X : Type 0} → (Data → Option X) → Place → List ℕ → Members → Result X ConfFault
wanted read at key ms = or_field at key (option_and_then read (get_member key ms))

-- a key with a default
abbrev pub given_or : {X : Type 0} → (Data → Option X) → X → Place → List ℕ → Option Data → Result X ConfFault
given_or read default at key None = Ok default
given_or read default at key (Some d) = or_field at key (read d)

abbrev pub with_default : {X : Type 0} → (Data → Option X) → X → Place → List ℕ → Members → Result X ConfFault
with_default read default at key ms = given_or read default at key (get_member key ms)

-- a key that may be left out
abbrev pub maybe : {X : Type 0} → (Data → Option X) → Place → List ℕ → Members → Result (Option X) ConfFault
maybe read at key ms = with_default (λ d. option_map Some (read d)) None at key ms

-- the condition, or Field at the key
abbrev pub only_if : Bool → Place → List ℕ → Result (Unit {0}) ConfFault
only_if true at key = Ok tt
only_if false at key = Err (Field (key_path at key))

-- keys that may not be there, looked for in this order
abbrev pub none_of : List (List ℕ) → Place → Members → Result (Unit {0}) ConfFault
none_of [] at ms = Ok tt
none_of (key ∷ keys) at ms = if is_some (get_member key ms) then Err (Field (key_path at key)) else none_of keys at ms

-- a number within its limits
abbrev pub number_within : ℕ → ℕ → ℤ → Option ℕ
number_within least most (pos n) = if nat_le least n && nat_le n most then Some n else None
number_within least most (negsuc n) = None

abbrev pub number_in : ℕ → ℕ → Data → Option ℕ
number_in least most d = option_and_then (number_within least most) (as_integer d)

-- a text that has a meaning
abbrev pub text_in : {X : Type 0} → (List ℕ → Option X) → Data → Option X
text_in meaning d = option_and_then meaning (as_str d)

-- the least key, in byte order, that is none of the known ones
unfoldable pub is_among : List ℕ → List (List ℕ) → Bool
is_among key known = list_any (λ k. bytes_eq k key) known

abbrev pub unknown_key : List (List ℕ) → Members → Option (List ℕ)
unknown_key known no_members = None
unknown_key known (member key d ms) = if is_among key known then unknown_key known ms else Some key

abbrev pub only_known : List (List ℕ) → Place → Members → Result (Unit {0}) ConfFault
only_known known at ms = unless (unknown_key known ms) where
  unless : Option (List ℕ) → Result (Unit {0}) ConfFault
  unless None = Ok tt
  unless (Some key) = Err (Field (key_path at key))

-- an entry of an array, which has to be a table
abbrev pub table_at : Place → Option Members → Result Members ConfFault
table_at at (Some ms) = Ok ms
table_at at None = Err (Field (table_path at))

abbrev pub table_in : Place → Data → Result Members ConfFault
table_in at d = table_at at (as_table d)

-- the entries of an array, none where the key is left out
abbrev pub items_at : Place → List ℕ → Members → Result Items ConfFault
items_at at key ms = with_default as_array no_items at key ms

abbrev pub item_count : Items → ℕ
item_count no_items = 0
item_count (item d ds) = suc (item_count ds)

-- no more entries than may be
abbrev pub at_most : ℕ → Place → List ℕ → Items → Result Items ConfFault
at_most most at key ds = if nat_le (item_count ds) most then Ok ds else Err (Limit (key_path at key))

abbrev pub entries_at : ℕ → Place → List ℕ → Members → Result Items ConfFault
entries_at most at key ms = do
  ds ← items_at at key ms
  at_most most at key ds
