-- Tagged profiles (CORBA 3.3 Part 2, 7.6.2): a tag and the profile's data, a sequence of octets.
use Rattle.std.specs.Prelude.{◌≡◌, ℕ, ◌<◌, List, [], ◌∷◌, length, ◌⊎◌}
use Rattle.cdr_core.specs.Kind.{ULong, Octets}
use Rattle.cdr_core.specs.Field.{ulong, octets}
use Rattle.cdr_core.specs.Cursor.{Cursor, Reads}
use Rattle.poa_base.specs.declared.Profile.{Profile}
use Rattle.ior_text.specs.Breaking.{Breaks}

-- one profile
pub record ReadsProfile (profile : Profile) (c after : Cursor) : Type 0 where
  pub tagged : Cursor
  pub tag : Reads (ulong profile.tag) c tagged
  pub bytes : Reads (octets profile.bytes) tagged after

-- the tag can be read, and the data can't
pub record DataBreaks (c : Cursor) (at : ℕ) : Type 0 where
  pub number : ℕ
  pub tagged : Cursor
  pub tag : Reads (ulong number) c tagged
  pub breaks : Breaks Octets tagged at

-- a profile is due, and its tag or its data can't be read
abbrev pub ProfileBreaks : Cursor → ℕ → Type 0
ProfileBreaks c at = Breaks ULong c at ⊎ DataBreaks c at

-- profiles, one behind the other
abbrev pub ReadsProfiles : List Profile → Cursor → Cursor → Type 0
ReadsProfiles [] c after = after ≡ c
ReadsProfiles (profile ∷ profiles) c after =
    (behind : Cursor) × ReadsProfile profile c behind × ReadsProfiles profiles behind after

-- of so many profiles the first ones can be read, and the next can't
pub record ProfilesBreak (count : ℕ) (c : Cursor) (at : ℕ) : Type 0 where
  pub found : List Profile
  pub behind : Cursor
  pub read : ReadsProfiles found c behind
  pub fewer : length found < count
  pub breaks : ProfileBreaks behind at
