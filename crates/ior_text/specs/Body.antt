-- The data of an IIOP profile (CORBA 3.3 Part 2, 9.7.2): an encapsulation of the version, the host, the port, the
-- object key and, from version 1.1 on, the components. What stands behind is ignored.
use Rattle.std.specs.Prelude.{◌≡◌, ℕ, nat_lt, ◌==◌, ◌||◌, ◌&&◌, nat_le, Bool, List, Some, MatchBool, ⊤}
use Rattle.cdr_core.specs.Field.{octet, ushort, text, octets}
use Rattle.cdr_core.specs.Cursor.{Cursor, Reads}
use Rattle.poa_base.specs.declared.Profile.{Profile}
use Rattle.ior_text.specs.declared.body.ProfileBody.{ProfileBody}
use Rattle.ior_text.specs.declared.profile.TheConstants.{TAG_INTERNET_IOP}
use Rattle.ior_text.specs.Encapsulated.{inside}
use Rattle.ior_text.specs.Components.{HasComponents}

-- from version 1.1 on there are components
abbrev pub has_components : ℕ → ℕ → Bool
has_components major minor = nat_lt 1 major || (major == 1 && nat_le 1 minor)

-- the fields of a body
pub record ReadsBody (body : ProfileBody) (c : Cursor) : Type 0 where
  pub behind_major : Cursor
  pub behind_minor : Cursor
  pub behind_host : Cursor
  pub behind_port : Cursor
  pub behind_key : Cursor
  pub major : Reads (octet body.major) c behind_major
  pub minor : Reads (octet body.minor) behind_major behind_minor
  pub host : Reads (text body.host) behind_minor behind_host
  pub port : Reads (ushort body.port) behind_host behind_port
  pub key : Reads (octets body.key) behind_port behind_key
  pub components : MatchBool (has_components body.major body.minor) (HasComponents behind_key) ⊤

-- the bytes are an encapsulation of this body
pub record EnclosesBody (bytes : List ℕ) (body : ProfileBody) : Type 0 where
  pub start : Cursor
  pub opened : inside bytes ≡ Some start
  pub read : ReadsBody body start

-- the profile is an IIOP profile with this body
pub record HasBody (profile : Profile) (body : ProfileBody) : Type 0 where
  pub tag : profile.tag ≡ TAG_INTERNET_IOP
  pub encloses : EnclosesBody profile.bytes body
