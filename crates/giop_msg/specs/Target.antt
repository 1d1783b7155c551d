-- The target of a request or a locate: CORBA 3.3 Part 2, 9.4.2.1. In version 1.2 a short, the disposition, tells how the
-- object is addressed; in the versions before it the target is the key.
use Rattle.std.specs.Prelude.{◌≡◌, ℕ, List, [], ◌∷◌, Option, Some}
use Rattle.cdr_core.specs.Field.{Field, ushort, ulong, octets}
use Rattle.cdr_core.specs.Cursor.{Cursor, Reads}
use Rattle.poa_base.specs.declared.Ior.{Ior}
use Rattle.poa_base.specs.declared.Profile.{Profile}
use Rattle.ior_text.specs.Tagged.{ReadsProfile}
use Rattle.ior_text.specs.ReferenceFields.{ReadsIor}
use Rattle.ior_text.specs.Key.{TellsKey, HasKey, IsKeyOr}
use Rattle.giop_msg.specs.declared.target.TheConstants.{KEY_ADDRESS, PROFILE_ADDRESS, REFERENCE_ADDRESS}
use Rattle.giop_msg.specs.Version.{ByVersion, is_newest}

-- how an object is addressed
pub data Target : Type 0 where
  -- by its key
  by_key : List ℕ → Target
  -- by a profile
  by_profile : Profile → Target
  -- by one of the profiles of a reference, told by its index
  by_reference : ℕ → Ior → Target

abbrev pub disposition_of : Target → ℕ
disposition_of (by_key key) = KEY_ADDRESS
disposition_of (by_profile profile) = PROFILE_ADDRESS
disposition_of (by_reference index ior) = REFERENCE_ADDRESS

-- what stands behind the disposition
abbrev pub ReadsAddress : Target → Cursor → Cursor → Type 0
ReadsAddress (by_key key) before after = Reads (octets key) before after
ReadsAddress (by_profile profile) before after = ReadsProfile profile before after
ReadsAddress (by_reference index ior) before after = (behind : Cursor) × (Reads (ulong index) before behind × ReadsIor ior behind after)

-- the key that it gives; none where its profile is absent, isn't an IIOP profile or can't be read
abbrev pub GivesKey : Target → Option (List ℕ) → Type 0
GivesKey (by_key key) given = given ≡ Some key
GivesKey (by_profile profile) given = IsKeyOr (TellsKey profile) given
GivesKey (by_reference index ior) given = IsKeyOr (HasKey ior index) given

-- an address of this disposition, which gives this key or none
pub record IsAddress (disposition : ℕ) (given : Option (List ℕ)) (before after : Cursor) : Type 0 where
  pub object : Target
  pub is : disposition_of object ≡ disposition
  pub read : ReadsAddress object before after
  pub gives : GivesKey object given

-- a target that gives this key, or none, is spelled from the first cursor on
pub record IsTarget (given : Option (List ℕ)) (before after : Cursor) : Type 0 where
  pub disposition : ℕ
  pub behind : Cursor
  pub told : Reads (ushort disposition) before behind
  pub address : IsAddress disposition given behind after

-- a target of the versions before 1.2: its key
pub record IsKey (given : Option (List ℕ)) (before after : Cursor) : Type 0 where
  pub key : List ℕ
  pub read : Reads (octets key) before after
  pub gives : given ≡ Some key

-- by the version
abbrev pub IsAddressed : ℕ → Option (List ℕ) → Cursor → Cursor → Type 0
IsAddressed minor given before after = ByVersion (is_newest minor) (IsTarget given before after) (IsKey given before after)

-- the fields of a target by its key in version 1.2, as it is written
abbrev pub key_fields : List ℕ → List Field
key_fields key = ushort KEY_ADDRESS ∷ octets key ∷ []
