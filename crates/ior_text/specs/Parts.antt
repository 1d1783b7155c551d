-- All that the data of an IIOP profile says (CORBA 3.3 Part 2, 9.7.2), and the profile that is written of it.
use Rattle.std.specs.Prelude.{◌≡◌, ℕ, ◌+◌, ◌^◌, ◌<◌, All, List, [], ◌∷◌, length, false, if◌then◌else◌, Some, MatchBool, ⊤}
use Rattle.cdr_core.specs.Field.{Field, octet, ushort, ulong, text, octets}
use Rattle.cdr_core.specs.Cursor.{Cursor}
use Rattle.cdr_core.specs.Draft.{Draft, empty_draft, with_field}
use Rattle.cdr_core.specs.Fields.{with_fields}
use Rattle.poa_base.specs.declared.Profile.{Profile}
use Rattle.ior_text.specs.declared.body.ProfileBody.{ProfileBody}
use Rattle.ior_text.specs.declared.parts.ProfileParts.{ProfileParts}
use Rattle.ior_text.specs.declared.profile.TheConstants.{TAG_INTERNET_IOP}
use Rattle.ior_text.specs.Encapsulated.{inside}
use Rattle.ior_text.specs.Components.{ReadsComponents}
use Rattle.ior_text.specs.Body.{has_components, ReadsBody}
use Rattle.ior_text.specs.Written.{with_profiles, IsProfile}

-- the fields of a body and the components behind them, of which there are none before version 1.1
pub record ReadsParts (parts : ProfileParts) (c : Cursor) : Type 0 where
  pub fields : ReadsBody parts.body c
  pub components : MatchBool (has_components parts.body.major parts.body.minor) (ReadsComponents parts.components fields.behind_key)
      (parts.components ≡ [])

-- the profile is an IIOP profile, and all that its data says is this
pub record HasParts (profile : Profile) (parts : ProfileParts) : Type 0 where
  pub tag : profile.tag ≡ TAG_INTERNET_IOP
  pub start : Cursor
  pub opened : inside profile.bytes ≡ Some start
  pub read : ReadsParts parts start

-- there are components from version 1.1 on alone
abbrev pub AreParts : ProfileParts → Type 0
AreParts parts = MatchBool (has_components parts.body.major parts.body.minor) ⊤ (parts.components ≡ [])

-- the byte order, big-endian; the version, the host, the port and the object's key
abbrev pub body_fields : ProfileBody → List Field
body_fields body =
    octet 0 ∷ octet body.major ∷ octet body.minor ∷ text body.host ∷ ushort body.port ∷ octets body.key ∷ []

-- the components, in the versions that have them
abbrev pub with_components : ProfileParts → Draft → Draft
with_components parts d =
    if has_components parts.body.major parts.body.minor
    then with_profiles parts.components (with_field (ulong (length parts.components)) d)
    else d

-- the data of the profile, an encapsulation
abbrev pub parts_data : ProfileParts → List ℕ
parts_data parts = (with_components parts (with_fields (body_fields parts.body) (empty_draft false 0))).bytes

-- the profile that is written of these parts
abbrev pub profile_with : ProfileParts → Profile
profile_with parts = record { tag = TAG_INTERNET_IOP; bytes = parts_data parts }

-- the same parts with another object key
abbrev pub with_key : List ℕ → ProfileParts → ProfileParts
with_key key parts = record { body = record parts.body { key = key }; components = parts.components }

-- a body that CDR can carry
pub record FitsBody (body : ProfileBody) : Type 0 where
  pub major : body.major < 2 ^ 8
  pub minor : body.minor < 2 ^ 8
  pub host : length body.host + 1 < 2 ^ 32
  pub port : body.port < 2 ^ 16
  pub key : length body.key < 2 ^ 32

-- components that CDR can carry
abbrev pub FitComponents : List Profile → Type 0
FitComponents components = (length components < 2 ^ 32) × All IsProfile components
