-- The IIOP profile of an address (CORBA 3.3 Part 2, 9.7.2): big-endian, and with no components in the versions that have
-- them.
use Rattle.std.specs.Prelude.{ℕ, List, [], ◌∷◌, false, if◌then◌else◌}
use Rattle.cdr_core.specs.Field.{Field, octet, ushort, ulong, text, octets}
use Rattle.cdr_core.specs.Draft.{empty_draft}
use Rattle.cdr_core.specs.Fields.{with_fields}
use Rattle.poa_base.specs.declared.Profile.{Profile}
use Rattle.ior_text.specs.declared.body.ProfileBody.{ProfileBody}
use Rattle.ior_text.specs.declared.profile.TheConstants.{TAG_INTERNET_IOP}
use Rattle.ior_text.specs.Body.{has_components}
use Rattle.ior_text.specs.declared.address.Address.{Address}

-- what the profile says
abbrev pub body_of : Address → List ℕ → ProfileBody
body_of address key = record {
  major = 1;
  minor = address.minor;
  host = address.endpoint.host;
  port = address.endpoint.port;
  key = key;
}

-- a count of components, where the version has one
abbrev pub component_fields : ℕ → List Field
component_fields minor = if has_components 1 minor then ulong 0 ∷ [] else []

-- the byte order, the version, the host, the port and the key, and the count
abbrev pub profile_fields : Address → List ℕ → List Field
profile_fields address key =
    octet 0 ∷ octet 1 ∷ octet address.minor ∷ text address.endpoint.host ∷ ushort address.endpoint.port ∷ octets key
    ∷ component_fields address.minor

-- the data of the profile, an encapsulation
abbrev pub profile_data : Address → List ℕ → List ℕ
profile_data address key = (with_fields (profile_fields address key) (empty_draft false 0)).bytes

-- the profile of the object with this key at this address
abbrev pub profile_of : Address → List ℕ → Profile
profile_of address key = record { tag = TAG_INTERNET_IOP; bytes = profile_data address key }
