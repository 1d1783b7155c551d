-- The CDR spelling of a field (CORBA 3.3 Part 2, section 9.3): padding up to its alignment, then its bytes.
-- Reading and writing are both said by it. Reading takes any padding; writing gives zeros.
use Rattle.std.specs.Prelude.{◌≡◌, ℕ, ◌+◌, ◌-◌, ◌%◌, Bool, if◌then◌else◌, List, [], ◌∷◌, ◌++◌, length, replicate, ◌⊎◌}
use Rattle.std.specs.Int.{Width, w16, w32, w64, to_le_bytes, to_be_bytes, cast_unsigned}
use Rattle.cdr_core.specs.Kind.{unit_of}
use Rattle.cdr_core.specs.Field.{Field, octet, ushort, ulong, longlong, boolean, text, octets, kind_of, Fits}

-- how many bytes of padding lead from a place to the next multiple of the unit
abbrev pub gap : ℕ → ℕ → ℕ
gap unit place = (unit - place % unit) % unit

-- the bytes of a number, in the byte order of the message
abbrev pub number_bytes : Bool → Width → ℕ → List ℕ
number_bytes little w n = if little then to_le_bytes w n else to_be_bytes w n

-- the bytes of a field behind its padding, as they are written
abbrev pub body_of : Bool → Field → List ℕ
body_of little (octet n) = n ∷ []
body_of little (ushort n) = number_bytes little w16 n
body_of little (ulong n) = number_bytes little w32 n
body_of little (longlong z) = number_bytes little w64 (cast_unsigned w64 z)
body_of little (boolean b) = (if b then 1 else 0) ∷ []
body_of little (text bytes) = number_bytes little w32 (length bytes + 1) ++ bytes ++ 0 ∷ []
body_of little (octets bytes) = number_bytes little w32 (length bytes) ++ bytes

-- the bytes stand for the field; a string of length 0, without even its NUL, is read as the empty one
abbrev pub IsBody : Bool → Field → List ℕ → Type 0
IsBody little field body = (body ≡ body_of little field) ⊎ ((field ≡ text []) × (body ≡ number_bytes little w32 0))

-- the bytes, which begin at the place, are a spelling of the field
pub record Spells (little : Bool) (place : ℕ) (field : Field) (bytes : List ℕ) : Type 0 where
  pub padding : List ℕ
  pub body : List ℕ
  pub fits : Fits field
  pub aligned : length padding ≡ gap (unit_of (kind_of field)) place
  pub stands : IsBody little field body
  pub parts : bytes ≡ padding ++ body

-- the one spelling that is written: with zeros as padding, and the empty string with its NUL
abbrev pub written : Bool → ℕ → Field → List ℕ
written little place field = replicate (gap (unit_of (kind_of field)) place) 0 ++ body_of little field
