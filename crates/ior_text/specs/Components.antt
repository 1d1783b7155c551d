-- The components of a profile (CORBA 3.3 Part 2, 7.6.2): their count, and each of them. A component has the fields of a
-- tagged profile, a tag and octets.
use Rattle.std.specs.Prelude.{ℕ, List, length}
use Rattle.cdr_core.specs.Field.{ulong}
use Rattle.cdr_core.specs.Cursor.{Cursor, Reads}
use Rattle.poa_base.specs.declared.Profile.{Profile}
use Rattle.ior_text.specs.Tagged.{ReadsProfiles}

-- these components stand at the cursor
pub record ReadsComponents (components : List Profile) (c : Cursor) : Type 0 where
  pub counted : Cursor
  pub after : Cursor
  pub count : Reads (ulong (length components)) c counted
  pub each : ReadsProfiles components counted after

-- components stand at the cursor
abbrev pub HasComponents : Cursor → Type 0
HasComponents c = (components : List Profile) × ReadsComponents components c
