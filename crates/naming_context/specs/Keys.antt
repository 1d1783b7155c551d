-- The keys of contexts: persistent ones of the path `/names`, whose object id is the number of the context as a big-endian
-- ulong.
use Rattle.std.specs.Prelude.{◌≡◌, ℕ, ◌==◌, ◌&&◌, nat_eq, nat_le, not, Bool, List, [], ◌∷◌, length, codes, Option, Some, None, is_some, if◌then◌else◌}
use Rattle.std.specs.Cmp.Lexicographic.{pointwise}
use Rattle.std.specs.Int.{w32, from_be_bytes, to_be_bytes}
use Rattle.poa_base.specs.declared.Endpoint.{Endpoint}
use Rattle.poa_base.specs.declared.Ior.{Ior}
use Rattle.poa_base.specs.declared.Key.{Key}
use Rattle.object_key.specs.Spelling.{key_spelling, IsKey}
use Rattle.history_standing.specs.Reference.{reference_of}
use Rattle.naming_context.specs.declared.reached.Reached.{Reached}
use Rattle.naming_context.specs.declared.reached.Reached.TheVariants.{Context, NoContext, NoKey}
use Rattle.naming_context.specs.Outcomes.{context_type}

abbrev pub names_path : List (List ℕ)
names_path = codes "names" ∷ []

abbrev pub context_key : ℕ → Key
context_key n = record { stamp = None; path = names_path; oid = to_be_bytes w32 n; tag = 0 }

-- a reference to a context of this server, which is said to listen at the port of the naming service
abbrev pub names_endpoint : Endpoint
names_endpoint = record { host = codes "127.0.0.1"; port = 2809 }

abbrev pub context_reference : ℕ → Ior
context_reference n = reference_of names_endpoint context_type (context_key n)

-- a persistent key of that path without a tag
abbrev pub is_of_names : Key → Bool
is_of_names key = not (is_some key.stamp) && key.tag == 0 && pointwise (pointwise nat_eq) names_path key.path

-- the number that an object id of four bytes writes
abbrev pub number_in : List ℕ → Option ℕ
number_in oid = if length oid == 4 then Some (from_be_bytes w32 oid) else None

-- the context of a key, where so many were made behind context 0
abbrev pub up_to : ℕ → Option ℕ → Option ℕ
up_to made None = None
up_to made (Some n) = if nat_le n made then Some n else None

abbrev pub context_in : ℕ → Key → Option ℕ
context_in made key = if is_of_names key then up_to made (number_in key.oid) else None

-- the bytes spell a key
pub record Spells (bytes : List ℕ) (key : Key) : Type 0 where
  pub is_key : IsKey key
  pub spelled : key_spelling key ≡ bytes

pub record LeadsTo (made : ℕ) (bytes : List ℕ) (found : Option ℕ) : Type 0 where
  pub key : Key
  pub spells : Spells bytes key
  pub is : context_in made key ≡ found

-- what bytes lead to, where so many contexts were made behind context 0: a context, or a key of none, or they are no key
abbrev pub Reaches : ℕ → List ℕ → Reached → Type 0
Reaches made bytes (Context n) = LeadsTo made bytes (Some n)
Reaches made bytes NoContext = LeadsTo made bytes None
Reaches made bytes NoKey = (key : Key) → Spells bytes key → ⊥
