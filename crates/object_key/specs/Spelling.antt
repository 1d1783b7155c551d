-- The one spelling of a key: the octets that stand for it in a reference and in a request.
use Rattle.std.specs.Prelude.{◌≡◌, ◌==◌, ℕ, ◌<◌, ◌^◌, if◌then◌else◌, List, [], ◌∷◌, ◌++◌, length, All, Option, Some, None, IfSome}
use Rattle.std.specs.List.{flat_map}
use Rattle.std.specs.Int.{w16, w32, to_be_bytes}
use Rattle.poa_base.specs.declared.Key.{Key}
use Rattle.poa_base.specs.declared.Stamp.{Stamp}
use Rattle.poa_base.specs.Limits.{IsName, IsOid, IsPath}

-- what every key begins with: `POA`
abbrev pub key_mark : List ℕ
key_mark = 80 ∷ 79 ∷ 65 ∷ []

-- a persistent key: form 1 and octet 1 where it has no tag; form 2, octet 1 and the tag where it has one
abbrev pub tag_bytes : ℕ → List ℕ
tag_bytes tag = if tag == 0 then 1 ∷ 1 ∷ [] else 2 ∷ 1 ∷ to_be_bytes w16 tag

-- the form and the lifespan: form 1, octet 0, the run and the adapter's number for a transient key
abbrev pub lifespan_bytes : Option Stamp → ℕ → List ℕ
lifespan_bytes None tag = tag_bytes tag
lifespan_bytes (Some stamp) tag = 1 ∷ 0 ∷ (to_be_bytes w32 stamp.run ++ to_be_bytes w32 stamp.number)

-- an octet of length, and the name
abbrev pub name_bytes : List ℕ → List ℕ
name_bytes name = length name ∷ name

-- an octet that counts the names, and each name from the root down
abbrev pub path_bytes : List (List ℕ) → List ℕ
path_bytes path = length path ∷ flat_map name_bytes path

-- two octets of length, the high one first, and the object id
abbrev pub oid_bytes : List ℕ → List ℕ
oid_bytes oid = to_be_bytes w16 (length oid) ++ oid

-- the spelling of a key
abbrev pub key_spelling : Key → List ℕ
key_spelling key = key_mark ++ (lifespan_bytes key.stamp key.tag ++ (path_bytes key.path ++ oid_bytes key.oid))

-- a stamp's numbers fit 32 bits
abbrev pub IsStamp : Option Stamp → Type 0
IsStamp stamp = IfSome stamp (λ s. (s.run < 2 ^ 32) × (s.number < 2 ^ 32))

-- a transient key has no tag
abbrev pub TagsPersistent : Key → Type 0
TagsPersistent key = IfSome key.stamp (λ _. key.tag ≡ 0)

-- at most 16 names, of 1 to 64 bytes each
abbrev pub ArePathNames : List (List ℕ) → Type 0
ArePathNames path = IsPath path × All IsName path

-- a key within the limits, as each value of the type is
pub record IsKey (key : Key) : Type 0 where
  pub stamp : IsStamp key.stamp
  pub tag : key.tag < 2 ^ 16
  pub tagged : TagsPersistent key
  pub path : ArePathNames key.path
  pub oid : IsOid key.oid
