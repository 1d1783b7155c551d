-- What a view of a profile or of a reference sees.
use Rattle.std.specs.Prelude.{◌≡◌, ℕ, List, Option, length, slice_get}
use Rattle.cdr_core.specs.Cursor.{Cursor}
use Rattle.cdr_core.specs.Part.{IsSlice, counted_at}
use Rattle.poa_base.specs.declared.Ior.{Ior}
use Rattle.poa_base.specs.declared.Profile.{Profile}
use Rattle.ior_text.specs.declared.body.ProfileBody.{ProfileBody}
use Rattle.ior_text.specs.Body.{ReadsBody}
use Rattle.ior_text.specs.Tagged.{ReadsProfiles}
use Rattle.ior_text.specs.ReferenceFields.{ReadsIor}
use Rattle.ior_text.specs.Key.{TellsKey}
use Rattle.ior_text.specs.declared.seen_profile.ProfileView.{ProfileView}

-- the profile that is lent
abbrev pub seen_profile : ProfileView → Profile
seen_profile p = record { tag = p.tag; bytes = p.data.now }

-- the profile at an index of the reference that stands at the first cursor, or none where it has none there
pub record SeesProfile (index : ℕ) (found : Option Profile) (before after : Cursor) : Type 0 where
  pub ior : Ior
  pub read : ReadsIor ior before after
  pub is : found ≡ slice_get ior.profiles index

-- the same of so many profiles
pub record SeesAmong (count index : ℕ) (found : Option Profile) (before after : Cursor) : Type 0 where
  pub profiles : List Profile
  pub counted : length profiles ≡ count
  pub read : ReadsProfiles profiles before after
  pub is : found ≡ slice_get profiles index

-- a body with this object key stands at the cursor
pub record ReadsKey (key : List ℕ) (c : Cursor) : Type 0 where
  pub body : ProfileBody
  pub read : ReadsBody body c
  pub is_key : body.key ≡ key

-- the profile tells this object key, and it is the slice of the profile's data right behind its length, which
-- stands behind the port
pub record KeyLies (profile : Profile) (key : List ℕ) : Type 0 where
  pub tells : TellsKey profile key
  pub slice : IsSlice (counted_at tells.has.encloses.read.behind_port.place) key profile.bytes
