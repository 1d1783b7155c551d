-- What contracts see of a `Reader`: where it stands, and what it hasn't read yet.
use Rattle.std.specs.Prelude.{◌≡◌, ℕ, ◌+◌, ◌-◌, Bool, List, [], ◌∷◌, ◌++◌, length, ◌⊎◌}
use Rattle.cdr_core.specs.Field.{Field, ulong}
use Rattle.cdr_core.specs.Spelling.{gap, Spells}

pub record Cursor : Type 0 where
  -- the byte order: little-endian where true
  pub little : Bool
  -- the place of the first unread byte, from the start of the message or encapsulation
  pub place : ℕ
  -- the unread bytes
  pub rest : List ℕ

-- from the one cursor to the other these bytes were read, and nothing else changed
pub record Passes (bytes : List ℕ) (before after : Cursor) : Type 0 where
  pub order : after.little ≡ before.little
  pub moved : after.place ≡ before.place + length bytes
  pub split : before.rest ≡ bytes ++ after.rest

-- the field is spelled at the first cursor, and the second stands behind it
pub record Reads (field : Field) (before after : Cursor) : Type 0 where
  pub bytes : List ℕ
  pub spelled : Spells before.little before.place field bytes
  pub passed : Passes bytes before after

-- padding alone was passed, up to a multiple of the unit
pub record Skips (unit : ℕ) (before after : Cursor) : Type 0 where
  pub padding : List ℕ
  pub aligned : length padding ≡ gap unit before.place
  pub passed : Passes padding before after

-- how many bytes are left behind the padding, 0 where the padding itself isn't whole
abbrev pub left : ℕ → Cursor → ℕ
left unit c = length c.rest - gap unit c.place

-- a unit of alignment (CORBA 3.3 Part 2, section 9.3.1)
abbrev pub IsUnit : ℕ → Type 0
IsUnit unit = (unit ≡ 1) ⊎ (unit ≡ 2) ⊎ (unit ≡ 4) ⊎ (unit ≡ 8)

-- padding was passed, and behind it the bytes of a number, whose size is its alignment too
pub record Takes (size : ℕ) (body : List ℕ) (before after : Cursor) : Type 0 where
  pub padding : List ℕ
  pub aligned : length padding ≡ gap size before.place
  pub sized : length body ≡ size
  pub passed : Passes (padding ++ body) before after

-- a length was passed, and then as many bytes
pub record Counts (bytes : List ℕ) (before after : Cursor) : Type 0 where
  pub behind : Cursor
  pub counted : Reads (ulong (length bytes)) before behind
  pub passed : Passes bytes behind after

-- the bytes of a string are this text and a NUL, or neither
abbrev pub EndsInNul : List ℕ → List ℕ → Type 0
EndsInNul front bytes = (bytes ≡ front ++ 0 ∷ []) ⊎ ((bytes ≡ []) × (front ≡ []))
