-- The IIOP profile that is written: CORBA 3.3 Part 2, 9.7.2.
use Rattle.std.specs.Prelude.{ℕ, List, [], ◌∷◌, false}
use Rattle.cdr_core.specs.Field.{Field, octet, ushort, ulong, text, octets}
use Rattle.cdr_core.specs.Draft.{empty_draft}
use Rattle.cdr_core.specs.Fields.{with_fields}
use Rattle.poa_base.specs.declared.Endpoint.{Endpoint}
use Rattle.poa_base.specs.declared.Profile.{Profile}
use Rattle.ior_text.specs.declared.profile.TheConstants.{TAG_INTERNET_IOP}

-- the byte order, big-endian; version 1.2; the host, the port and the object's key; no components
abbrev pub profile_fields : Endpoint → List ℕ → List Field
profile_fields endpoint key =
    octet 0 ∷ octet 1 ∷ octet 2 ∷ text endpoint.host ∷ ushort endpoint.port ∷ octets key ∷ ulong 0 ∷ []

-- the data of the profile, an encapsulation
abbrev pub profile_data : Endpoint → List ℕ → List ℕ
profile_data endpoint key = (with_fields (profile_fields endpoint key) (empty_draft false 0)).bytes

-- the profile of the object with this key at this endpoint
abbrev pub profile_of : Endpoint → List ℕ → Profile
profile_of endpoint key = record { tag = TAG_INTERNET_IOP; bytes = profile_data endpoint key }
