-- The fields of a body, each read where the one before it ends.
use Rattle.std.proofs.Common.{◌≡◌, ◌≢◌, ℕ, List, Some, refl}
use Rattle.std.specs.Prelude.{MatchBool, ⊤}
use Rattle.cdr_core.specs.declared.CdrFault.TheVariants.{WantMemory}
use Rattle.cdr_core.specs.Field.{octet, ushort, text, octets}
use Rattle.cdr_core.specs.Cursor.{Cursor, Reads}
use Rattle.cdr_core.specs.declared.PartFault.{PartFault}
use Rattle.cdr_core.specs.declared.PartFault.TheVariants.{Short, BadBool, NoNul}
use Rattle.cdr_core.specs.Fault.{refusal}
use Rattle.poa_base.specs.declared.Profile.{Profile}
use Rattle.ior_text.specs.declared.profile.TheConstants.{TAG_INTERNET_IOP}
use Rattle.ior_text.specs.Encapsulated.{inside}
use Rattle.ior_text.specs.Components.{HasComponents}
use Rattle.ior_text.specs.Body.{has_components}
use Rattle.ior_text.specs.Key.{TellsKey}
use Rattle.ior_text.proofs.Bodies.{Versioned, fields_read}
use Rattle.ior_text.specs.Seen.{ReadsKey}

-- no view refuses for want of memory
pub not_memory : (fault : PartFault) → refusal fault ≢ WantMemory
not_memory (Short need have) e = cc
not_memory (BadBool value) e = cc
not_memory NoNul e = cc

-- a version is two octets
pub versioned :
    (c behind at : Cursor) (major minor : ℕ) → Reads (octet major) c behind → Reads (octet minor) behind at →
    Versioned c major minor at
versioned c behind at major minor major_is minor_is =
    record { behind_major = behind; major_read = major_is; minor_read = minor_is }

pub key_read :
    (c at d e behind : Cursor) (major minor : ℕ) (host : List ℕ) (port : ℕ) (key : List ℕ) →
    Versioned c major minor at → Reads (text host) at d → Reads (ushort port) d e → Reads (octets key) e behind →
    MatchBool (has_components major minor) (HasComponents behind) ⊤ → ReadsKey key c
key_read c at d e behind major minor host port key version host_is port_is key_is components = record {
  body = record { major = major; minor = minor; host = host; port = port; key = key };
  read = fields_read (record { major = major; minor = minor; host = host; port = port; key = key }) c at d e behind host key
      version host_is refl port_is key_is refl components;
  is_key = refl;
}

pub told :
    (profile : Profile) (start : Cursor) (key : List ℕ) → profile.tag ≡ TAG_INTERNET_IOP →
    inside profile.bytes ≡ Some start → ReadsKey key start → TellsKey profile key
told profile start key tag opened reads = record {
  body = reads.body;
  has = record { tag = tag; encloses = record { start = start; opened = opened; read = reads.read } };
  is_key = reads.is_key;
}
