-- Whether a profile or a reference tells a key is decided.
use Rattle.std.proofs.Common.{◌≡◌, ℕ, Bool, true, false, List, Option, Some, None, refl, sym, ◌∙◌, subst, inl, inr}
use Rattle.std.specs.Prelude.{MatchBool, ⊤, slice_get}
use Rattle.cdr_core.specs.Field.{octet, ushort, ulong, text, octets}
use Rattle.cdr_core.specs.Cursor.{Cursor, Reads}
use Rattle.cdr_core.proofs.OneReading.{one_octet_read, one_ushort_read, one_octets_read, one_text_read}
use Rattle.poa_base.specs.declared.Ior.{Ior}
use Rattle.poa_base.specs.declared.Profile.{Profile}
use Rattle.ior_text.specs.declared.body.ProfileBody.{ProfileBody}
use Rattle.ior_text.specs.declared.profile.TheConstants.{TAG_INTERNET_IOP}
use Rattle.ior_text.specs.Components.{HasComponents}
use Rattle.ior_text.specs.Body.{has_components, ReadsBody}
use Rattle.ior_text.specs.Encapsulated.{inside}
use Rattle.ior_text.specs.Key.{TellsKey, HasKey, IsKeyOr}
use Rattle.ior_text.proofs.Keys.{found_at}
use Rattle.giop_msg.proofs.Deciding.{Decided, decided_as, decided_then, is_decided, Stands, StandsThen}
use Rattle.giop_msg.proofs.Numbers.{octet_decided, ushort_decided}
use Rattle.giop_msg.proofs.Strings.{octets_decided, text_decided}
use Rattle.giop_msg.proofs.Profiles.{components_decided}

-- the fields of a profile's data, from the last one on
abbrev ComponentsAs : ℕ → ℕ → Cursor → Type 0
ComponentsAs major minor c = MatchBool (has_components major minor) (HasComponents c) ⊤

abbrev KeyThen : ℕ → ℕ → Cursor → Type 0
KeyThen major minor c = StandsThen (List ℕ) (λ (xs : List ℕ). Reads (octets xs)) (λ (xs : List ℕ) (a : Cursor). ComponentsAs major minor a) c

abbrev PortThen : ℕ → ℕ → Cursor → Type 0
PortThen major minor c = StandsThen ℕ (λ (n : ℕ). Reads (ushort n)) (λ (n : ℕ) (a : Cursor). KeyThen major minor a) c

abbrev HostThen : ℕ → ℕ → Cursor → Type 0
HostThen major minor c = StandsThen (List ℕ) (λ (xs : List ℕ). Reads (text xs)) (λ (xs : List ℕ) (a : Cursor). PortThen major minor a) c

abbrev MinorThen : ℕ → Cursor → Type 0
MinorThen major c = StandsThen ℕ (λ (n : ℕ). Reads (octet n)) (HostThen major) c

abbrev MajorThen : Cursor → Type 0
MajorThen c = StandsThen ℕ (λ (n : ℕ). Reads (octet n)) MinorThen c

components_as : (has : Bool) (c : Cursor) → Decided (MatchBool has (HasComponents c) ⊤)
components_as false c = inl tt
components_as true c = components_decided c

key_then : (major minor : ℕ) (c : Cursor) → Decided (KeyThen major minor c)
key_then major minor c =
    decided_then (List ℕ) (λ (xs : List ℕ). Reads (octets xs)) (λ (xs : List ℕ) (a : Cursor). ComponentsAs major minor a) c
    (λ xs ys a b p q. one_octets_read xs ys c a b p q) (λ xs a. components_as (has_components major minor) a) (octets_decided c)

port_then : (major minor : ℕ) (c : Cursor) → Decided (PortThen major minor c)
port_then major minor c =
    decided_then ℕ (λ (n : ℕ). Reads (ushort n)) (λ (n : ℕ) (a : Cursor). KeyThen major minor a) c
    (λ m n a b p q. one_ushort_read m n c a b p q) (λ n a. key_then major minor a) (ushort_decided c)

host_then : (major minor : ℕ) (c : Cursor) → Decided (HostThen major minor c)
host_then major minor c =
    decided_then (List ℕ) (λ (xs : List ℕ). Reads (text xs)) (λ (xs : List ℕ) (a : Cursor). PortThen major minor a) c
    (λ xs ys a b p q. one_text_read xs ys c a b p q) (λ xs a. port_then major minor a) (text_decided c)

minor_then : (major : ℕ) (c : Cursor) → Decided (MinorThen major c)
minor_then major c =
    decided_then ℕ (λ (n : ℕ). Reads (octet n)) (HostThen major) c (λ m n a b p q. one_octet_read m n c a b p q) (λ minor a. host_then major minor a)
    (octet_decided c)

major_then : (c : Cursor) → Decided (MajorThen c)
major_then c =
    decided_then ℕ (λ (n : ℕ). Reads (octet n)) MinorThen c (λ m n a b p q. one_octet_read m n c a b p q) minor_then (octet_decided c)

-- a body stands there
abbrev HasFields : Cursor → Type 0
HasFields c = (body : ProfileBody) × ReadsBody body c

fields_there : (c : Cursor) → MajorThen c → HasFields c
fields_there c s =
    let minor = s.3 in
    let host = minor.3 in
    let port = host.3 in
    let key = port.3 in (
      record { major = s.0; minor = minor.0; host = host.0; port = port.0; key = key.0 },
      record {
        behind_major = s.1;
        behind_minor = minor.1;
        behind_host = host.1;
        behind_port = port.1;
        behind_key = key.1;
        major = s.2;
        minor = minor.2;
        host = host.2;
        port = port.2;
        key = key.2;
        components = key.3;
      },
    )

fields_back : (c : Cursor) → HasFields c → MajorThen c
fields_back c h =
    let body = h.0 in
    let r = h.1 in (
      body.major,
      r.behind_major,
      r.major,
      (
        body.minor,
        r.behind_minor,
        r.minor,
        (body.host, r.behind_host, r.host, (body.port, r.behind_port, r.port, (body.key, r.behind_key, r.key, r.components))),
      ),
    )

fields_decided : (c : Cursor) → Decided (HasFields c)
fields_decided c = decided_as (MajorThen c) (HasFields c) (fields_there c) (fields_back c) (major_then c)

-- the key that a profile tells
abbrev SomeKey : (List ℕ → Type 0) → Type 0
SomeKey Tells = (key : List ℕ) × Tells key

key_inside : (profile : Profile) (start : Option Cursor) → inside profile.bytes ≡ start → profile.tag ≡ TAG_INTERNET_IOP → Decided (SomeKey (TellsKey profile))
key_inside profile None opened tag =
    inr (λ s. let no : None ≡ Some s.1.has.encloses.start = sym opened ∙ s.1.has.encloses.opened in cc (no))
key_inside profile (Some start) opened tag =
    decided_as (HasFields start) (SomeKey (TellsKey profile))
    (λ h. (h.0.key, record { body = h.0; has = record { tag = tag; encloses = record { start = start; opened = opened; read = h.1 } }; is_key = refl }))
    (λ s. let same : s.1.has.encloses.start ≡ start = cc (s.1.has.encloses.opened, opened) in
    (s.1.body, subst (λ (x : Cursor). ReadsBody s.1.body x) same s.1.has.encloses.read))
    (fields_decided start)

key_tagged : (profile : Profile) → Decided (profile.tag ≡ TAG_INTERNET_IOP) → Decided (SomeKey (TellsKey profile))
key_tagged profile (inl tag) = key_inside profile (inside profile.bytes) refl tag
key_tagged profile (inr other) = inr (λ s. other s.1.has.tag)

pub told_decided : (profile : Profile) → Decided (SomeKey (TellsKey profile))
told_decided profile = key_tagged profile (is_decided profile.tag TAG_INTERNET_IOP)

-- a key, or none where none is told
abbrev pub SomeGiven : (Option (List ℕ) → Type 0) → Type 0
SomeGiven Gives = (given : Option (List ℕ)) × Gives given

pub given_by : (Tells : List ℕ → Type 0) → Decided (SomeKey Tells) → SomeGiven (IsKeyOr Tells)
given_by Tells (inl s) = (Some s.0, s.1)
given_by Tells (inr none) = (None, λ key tells. none (key, tells))

pub given_at : (ior : Ior) (index : ℕ) (found : Option Profile) → slice_get ior.profiles index ≡ found → SomeGiven (IsKeyOr (HasKey ior index))
given_at ior index None is = (None, λ key has. let no : None ≡ Some has.profile = sym is ∙ has.stands in cc (no))
given_at ior index (Some profile) is =
    let given = given_by (TellsKey profile) (told_decided profile) in
    (given.0, found_at ior index profile is given.0 given.1)
