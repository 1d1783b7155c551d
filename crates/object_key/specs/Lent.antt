-- Where the parts of a key lie: each is the slice of the bytes at the place that the spelling gives it.
use Rattle.std.specs.Prelude.{◌≡◌, ℕ, ◌+◌, ◌<◌, List, [], length, take, drop, get_or}
use Rattle.poa_base.specs.declared.Key.{Key}
use Rattle.object_key.specs.Spelling.{key_mark, lifespan_bytes}
use Rattle.object_key.specs.Reading.{AreNames, names_bytes, names_of}

-- the bytes spell so many names, one behind the other, and nothing else
pub record SpellsNames (count : ℕ) (bytes : List ℕ) : Type 0 where
  pub names : AreNames count (names_of count bytes)
  pub whole : names_bytes (names_of count bytes) ≡ bytes

-- the names lie behind the mark, the form and lifespan, and the octet that counts them
abbrev pub names_at : Key → ℕ
names_at key = length key_mark + length (lifespan_bytes key.stamp key.tag) + 1

-- a name lies behind the names before it and the octet of its length
abbrev pub name_at : Key → ℕ → ℕ
name_at key i = names_at key + length (names_bytes (take i key.path)) + 1

-- the object id lies behind the names and the two octets of its length
abbrev pub oid_at : Key → ℕ
oid_at key = names_at key + length (names_bytes key.path) + 2

-- each name is the slice of the bytes at its place, and the object id is all that is behind its own
pub record LendsKey (bytes : List ℕ) (key : Key) : Type 0 where
  pub name : (i : ℕ) → i < length key.path → take (length (get_or key.path i [])) (drop (name_at key i) bytes) ≡ get_or key.path i []
  pub oid : drop (oid_at key) bytes ≡ key.oid
