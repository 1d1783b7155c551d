-- The one text that is written of a reference: `IOR:` and small hexadecimal digits, big-endian.
use Rattle.std.specs.Prelude.{ℕ, ◌+◌, ◌^◌, ◌<◌, false, List, [], ◌∷◌, ◌++◌, length, codes, All}
use Rattle.hex.specs.Hex.{encode_lower, IsBytes}
use Rattle.cdr_core.specs.Field.{octet, ulong, text, octets}
use Rattle.cdr_core.specs.Draft.{Draft, empty_draft, with_field}
use Rattle.poa_base.specs.declared.Ior.{Ior}
use Rattle.poa_base.specs.declared.Profile.{Profile}

-- a tag and the profile's data
abbrev pub with_profile : Profile → Draft → Draft
with_profile profile d = with_field (octets profile.bytes) (with_field (ulong profile.tag) d)

-- profiles, one behind the other
abbrev pub with_profiles : List Profile → Draft → Draft
with_profiles [] d = d
with_profiles (profile ∷ profiles) d = with_profiles profiles (with_profile profile d)

-- the byte order, the type id, the count of the profiles and each of them
abbrev pub ior_draft : Ior → Draft
ior_draft ior =
    with_profiles ior.profiles
    (with_field (ulong (length ior.profiles)) (with_field (text ior.type_id) (with_field (octet 0) (empty_draft false 0))))

-- the encapsulation of a reference
abbrev pub encapsulation : Ior → List ℕ
encapsulation ior = (ior_draft ior).bytes

-- the text of a reference
abbrev pub ior_text : Ior → List ℕ
ior_text ior = codes "IOR:" ++ encode_lower (encapsulation ior)

-- a profile that CDR can carry
pub record IsProfile (profile : Profile) : Type 0 where
  pub tag : profile.tag < 2 ^ 32
  pub len : length profile.bytes < 2 ^ 32
  pub bytes : IsBytes profile.bytes

-- a reference that CDR can carry
pub record IsIor (ior : Ior) : Type 0 where
  pub len : length ior.type_id + 1 < 2 ^ 32
  pub type_id : IsBytes ior.type_id
  pub count : length ior.profiles < 2 ^ 32
  pub profiles : All IsProfile ior.profiles
