-- The keys of a table.
use Rattle.std.proofs.Common.{◌≡◌, ℕ, if◌then◌else◌, List, [], ◌∷◌, map, Option, Some, None, String, Global, string_bytes, refl, ap, ◌||◌, Bor}
use Rattle.std.specs.Map.{keys_of}
use Rattle.std.specs.List.{list_any}
use Rattle.std.specs.Str.{bytes_eq}
use Rattle.toml.specs.declared.value.Value.{Value}
use Rattle.toml.specs.View.{members_view}
use Rattle.conf_fields.specs.Look.{is_among, unknown_key}

-- the first of the keys that is none of the known ones
abbrev pub unknown_in : List (List ℕ) → List (String Global) → Option (List ℕ)
unknown_in known [] = None
unknown_in known (k ∷ ks) = if is_among (string_bytes k) known then unknown_in known ks else Some (string_bytes k)

pub unknown_in-keys : (known : List (List ℕ)) (es : List (String Global × Value)) → unknown_in known (keys_of es) ≡ unknown_key known (members_view es)
unknown_in-keys known [] = refl
unknown_in-keys known (e ∷ es) = ap (λ o. if is_among (string_bytes e.0) known then o else Some (string_bytes e.0)) (unknown_in-keys known es)

-- a test of what each reference points to
pub list_any-now : (key : List ℕ) (ks : List (Bor (List ℕ))) → list_any (λ k. bytes_eq k.now key) ks ≡ list_any (λ k. bytes_eq k key) (map (λ k. k.now) ks)
list_any-now key [] = refl
list_any-now key (k ∷ ks) = ap (λ b. bytes_eq k.now key || b) (list_any-now key ks)
