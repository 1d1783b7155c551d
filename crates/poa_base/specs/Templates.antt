-- The templates of a configuration, found by path.
use Rattle.std.specs.Prelude.{◌≡◌, ℕ, ◌+◌, ◌*◌, ◌%◌, ◌^◌, Bool, List, Option, find, fold, nat_eq}
use Rattle.std.specs.BTreeMap as tree
use Rattle.std.specs.BTreeMap.{BTreeMap}
use Rattle.std.specs.Cmp.Lexicographic.{pointwise}
use Rattle.std.specs.List.{position_from}
use Rattle.std.specs.Ordering.{nat_cmp}
use Rattle.poa_base.specs.declared.config.AdapterConf.{AdapterConf}

-- the first entry of the path
abbrev pub of_path : List AdapterConf → List (List ℕ) → Option AdapterConf
of_path entries path = find (λ a. pointwise (pointwise nat_eq) a.path path) entries

-- the digest of a path: its bytes, with 256 behind each name, are the digits of a number in that base, of which the low 64 bits count
abbrev pub with_byte : ℕ → ℕ → ℕ
with_byte sum byte = (sum * 1099511628211 + byte) % 2 ^ 64

abbrev pub with_name : ℕ → List ℕ → ℕ
with_name sum name = with_byte (fold with_byte sum name) 256

abbrev pub digest : List (List ℕ) → ℕ
digest path = fold with_name 0 path

abbrev pub has_digest : ℕ → AdapterConf → Bool
has_digest sum a = tree.is_at (nat_cmp (digest a.path)) sum

-- a table has for each digest the place of the first entry that has it
abbrev pub IsPlaced : BTreeMap ℕ ℕ → List AdapterConf → Type 0
IsPlaced places entries = (sum : ℕ) → tree.get nat_cmp places sum ≡ position_from (has_digest sum) 0 entries
