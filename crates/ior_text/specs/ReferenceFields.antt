-- A reference: CORBA 3.3 Part 2, 7.6.2. Its fields are the type id, the count of the profiles, and each of them.
use Rattle.std.specs.Prelude.{ℕ, List, length, ◌⊎◌}
use Rattle.cdr_core.specs.Kind.{Text, ULong}
use Rattle.cdr_core.specs.Field.{text, ulong}
use Rattle.cdr_core.specs.Cursor.{Cursor, Reads}
use Rattle.poa_base.specs.declared.Ior.{Ior}
use Rattle.ior_text.specs.Breaking.{Breaks}
use Rattle.ior_text.specs.Tagged.{ReadsProfiles, ProfilesBreak}

-- the reference stands at the first cursor, and the second stands behind it
pub record ReadsIor (ior : Ior) (c after : Cursor) : Type 0 where
  pub named : Cursor
  pub counted : Cursor
  pub type_id : Reads (text ior.type_id) c named
  pub count : Reads (ulong (length ior.profiles)) named counted
  pub profiles : ReadsProfiles ior.profiles counted after

-- the type id can be read, and the count of the profiles can't
pub record CountBreaks (c : Cursor) (at : ℕ) : Type 0 where
  pub name : List ℕ
  pub named : Cursor
  pub type_id : Reads (text name) c named
  pub breaks : Breaks ULong named at

-- the type id and the count of the profiles can be read, and not all profiles
pub record ListBreaks (c : Cursor) (at : ℕ) : Type 0 where
  pub name : List ℕ
  pub total : ℕ
  pub named : Cursor
  pub counted : Cursor
  pub type_id : Reads (text name) c named
  pub count : Reads (ulong total) named counted
  pub breaks : ProfilesBreak total counted at

-- the first field of a reference that can't be read begins at this place
abbrev pub IorBreaks : Cursor → ℕ → Type 0
IorBreaks c at = Breaks Text c at ⊎ CountBreaks c at ⊎ ListBreaks c at
