-- One reading of the data of a profile: each field of a body stands where the fields before it end.
use Rattle.std.proofs.Common.{◌≡◌, ◌≢◌, ℕ, Bool, true, false, List, [], Option, Some, None, Result, Ok, Err, sym, ◌∙◌, ap, subst, ◌⊎◌, inl, inr}
use Rattle.std.specs.Prelude.{IfOk, OnOk, MatchOption, MatchBool, ⊤}
use Rattle.cdr_core.specs.declared.CdrFault.{CdrFault}
use Rattle.cdr_core.specs.declared.CdrFault.TheVariants.{WantMemory}
use Rattle.cdr_core.specs.Kind.{Text, UShort, Octets}
use Rattle.cdr_core.specs.Field.{octet, ushort, text, octets}
use Rattle.cdr_core.specs.Cursor.{Cursor, Reads}
use Rattle.cdr_core.specs.Refusal.{Refuses}
use Rattle.cdr_core.proofs.OneReading.{one_octet_read, one_ushort_read, one_text_read, one_octets_read}
use Rattle.cdr_core.proofs.Refusals.{none_where_refused}
use Rattle.poa_base.specs.declared.Profile.{Profile}
use Rattle.ior_text.specs.declared.body.ProfileBody.{ProfileBody}
use Rattle.ior_text.specs.declared.parts.ProfileParts.{ProfileParts}
use Rattle.ior_text.specs.Encapsulated.{inside}
use Rattle.ior_text.specs.Components.{ReadsComponents, HasComponents}
use Rattle.ior_text.specs.Body.{has_components, ReadsBody, HasBody}
use Rattle.ior_text.specs.Parts.{ReadsParts, HasParts}

-- the version was read up to here
pub record Versioned (c : Cursor) (major minor : ℕ) (at : Cursor) : Type 0 where
  pub behind_major : Cursor
  pub major_read : Reads (octet major) c behind_major
  pub minor_read : Reads (octet minor) behind_major at

pub same_version : (b : ProfileBody) (c at : Cursor) (m n : ℕ) (r : ReadsBody b c) → Versioned c m n at → (b.major ≡ m)
    × ((b.minor ≡ n) × (r.behind_minor ≡ at))
same_version b c at m n r v =
    let major = one_octet_read b.major m c r.behind_major v.behind_major r.major v.major_read in
    let minor =
    one_octet_read b.minor n v.behind_major r.behind_minor at (subst (λ (x : Cursor). Reads (octet b.minor) x r.behind_minor) major.1 r.minor) v.minor_read in
    (major.0, (minor.0, minor.1))

pub host_at : (b : ProfileBody) (c at : Cursor) (m n : ℕ) (r : ReadsBody b c) → Versioned c m n at → Reads (text b.host) at r.behind_host
host_at b c at m n r v = subst (λ (x : Cursor). Reads (text b.host) x r.behind_host) (same_version b c at m n r v).1.1 r.host

pub port_at : (b : ProfileBody) (c at behind : Cursor) (m n : ℕ) (h : List ℕ) (r : ReadsBody b c) → Versioned c m n at → Reads (text h) at behind
    → Reads (ushort b.port) behind r.behind_port
port_at b c at behind m n h r v host =
    let one = one_text_read b.host h at r.behind_host behind (host_at b c at m n r v) host in
    subst (λ (x : Cursor). Reads (ushort b.port) x r.behind_port) one.1 r.port

pub key_at : (b : ProfileBody) (c at d behind : Cursor) (m n : ℕ) (h : List ℕ) (p : ℕ) (r : ReadsBody b c) → Versioned c m n at → Reads (text h) at d
    → Reads (ushort p) d behind → Reads (octets b.key) behind r.behind_key
key_at b c at d behind m n h p r v host port =
    let one = one_ushort_read b.port p d r.behind_port behind (port_at b c at d m n h r v host) port in
    subst (λ (x : Cursor). Reads (octets b.key) x r.behind_key) one.1 r.key

-- the components of a body stand behind its key
pub components_at : (b : ProfileBody) (c at d e behind : Cursor) (m n : ℕ) (h : List ℕ) (p : ℕ) (k : List ℕ) (r : ReadsBody b c) → Versioned c m n at
    → Reads (text h) at d → Reads (ushort p) d e → Reads (octets k) e behind → has_components m n ≡ true → HasComponents behind
components_at b c at d e behind m n h p k r v host port key has =
    let version = same_version b c at m n r v in
    let one = one_octets_read b.key k e r.behind_key behind (key_at b c at d e m n h p r v host port) key in
    let here : has_components b.major b.minor ≡ true = ap (λ x. has_components x b.minor) version.0 ∙ ap (λ y. has_components m y) version.1.0 ∙ has in
    subst HasComponents one.1 (subst (λ (x : Bool). MatchBool x (HasComponents r.behind_key) ⊤) here r.components)

-- where reading was refused, and memory didn't lack, there is no body
pub no_body : {X E : Type 0} (P : Type 0) (Q : X → Type 0) (fault : CdrFault) (result : Result (Option X) E) → IfOk result (λ x. x ≡ None)
    → OnOk result (fault ≢ WantMemory) → (fault ≢ WantMemory → P) → IfOk result (λ found. MatchOption found P Q)
no_body P Q fault (Err e) none other why = tt
no_body {X} P Q fault (Ok x) none other why = subst (λ (o : Option X). MatchOption o P Q) (sym none) (why other)

-- a profile has no body where its data can't be entered or its fields can't be read
pub unread : (profile : Profile) (start : Cursor) → inside profile.bytes ≡ Some start → ((body : ProfileBody) → ReadsBody body start → ⊥) → (body : ProfileBody)
    → HasBody profile body → ⊥
unread profile start opened none body has =
    let same : has.encloses.start ≡ start = cc (has.encloses.opened, opened) in
    none body (subst (λ (x : Cursor). ReadsBody body x) same has.encloses.read)

-- where the fields so far were read, and the next can't be, no body stands
pub no_host : (c at : Cursor) (m n : ℕ) (fault : CdrFault) → Versioned c m n at → ((fault ≡ WantMemory) ⊎ Refuses Text at fault) → fault ≢ WantMemory
    → (b : ProfileBody) → ReadsBody b c → ⊥
no_host c at m n fault v (inl memory) other b r = other memory
no_host c at m n fault v (inr refused) other b r = none_where_refused (text b.host) at r.behind_host fault refused (host_at b c at m n r v)

pub no_port : (c at d : Cursor) (m n : ℕ) (h : List ℕ) (fault : CdrFault) → Versioned c m n at → Reads (text h) at d → Refuses UShort d fault
    → (b : ProfileBody) → ReadsBody b c → ⊥
no_port c at d m n h fault v host refused b r = none_where_refused (ushort b.port) d r.behind_port fault refused (port_at b c at d m n h r v host)

pub no_object_key : (c at d e : Cursor) (m n : ℕ) (h : List ℕ) (p : ℕ) (fault : CdrFault) → Versioned c m n at → Reads (text h) at d → Reads (ushort p) d e
    → ((fault ≡ WantMemory) ⊎ Refuses Octets e fault) → fault ≢ WantMemory → (b : ProfileBody) → ReadsBody b c → ⊥
no_object_key c at d e m n h p fault v host port (inl memory) other b r = other memory
no_object_key c at d e m n h p fault v host port (inr refused) other b r =
    none_where_refused (octets b.key) e r.behind_key fault refused (key_at b c at d e m n h p r v host port)

pub no_components : (c at d e behind : Cursor) (m n : ℕ) (h : List ℕ) (p : ℕ) (k : List ℕ) → Versioned c m n at → Reads (text h) at d → Reads (ushort p) d e
    → Reads (octets k) e behind → ((has_components m n ≡ true) × (HasComponents behind → ⊥)) → (b : ProfileBody) → ReadsBody b c → ⊥
no_components c at d e behind m n h p k v host port key missing b r = missing.1 (components_at b c at d e behind m n h p k r v host port key missing.0)

pub fields_read : (b : ProfileBody) (c at d e behind : Cursor) (h k : List ℕ) → Versioned c b.major b.minor at → Reads (text h) at d → b.host ≡ h
    → Reads (ushort b.port) d e → Reads (octets k) e behind → b.key ≡ k → MatchBool (has_components b.major b.minor) (HasComponents behind) ⊤ → ReadsBody b c
fields_read b c at d e behind h k v host same_host port key same_key components = record {
  behind_major = v.behind_major;
  behind_minor = at;
  behind_host = d;
  behind_port = e;
  behind_key = behind;
  major = v.major_read;
  minor = v.minor_read;
  host = subst (λ (x : List ℕ). Reads (text x) at d) (sym same_host) host;
  port = port;
  key = subst (λ (x : List ℕ). Reads (octets x) e behind) (sym same_key) key;
  components = components;
}

-- components that were read stand there
some_there : (has : Bool) (components : List Profile) (c : Cursor) → MatchBool has (ReadsComponents components c) (components ≡ [])
    → MatchBool has (HasComponents c) ⊤
some_there true components c read = (components, read)
some_there false components c none = tt

pub parts_read : (parts : ProfileParts) (c at d e behind : Cursor) (h k : List ℕ) → Versioned c parts.body.major parts.body.minor at → Reads (text h) at d
    → parts.body.host ≡ h → Reads (ushort parts.body.port) d e → Reads (octets k) e behind → parts.body.key ≡ k
    → MatchBool (has_components parts.body.major parts.body.minor) (ReadsComponents parts.components behind) (parts.components ≡ []) → ReadsParts parts c
unfolding fields_read
parts_read parts c at d e behind h k v host same_host port key same_key components = record {
  fields = fields_read parts.body c at d e behind h k v host same_host port key same_key
      (some_there (has_components parts.body.major parts.body.minor) parts.components behind components);
  components = components;
}

-- what a profile says all of has the body
pub body_in : (profile : Profile) (parts : ProfileParts) → HasParts profile parts → HasBody profile parts.body
body_in profile parts has = record {
  tag = has.tag;
  encloses = record { start = has.start; opened = has.opened; read = has.read.fields };
}
