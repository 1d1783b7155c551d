-- The profile of an address, read back.
use Rattle.std.proofs.Common.{◌≡◌, ℕ, ◌+◌, ◌<◌, ◌^◌, Bool, true, false, List, [], ◌∷◌, ◌++◌, length, refl, sym, ◌∙◌, ap, subst, arith, append_assoc, append-nil, cond}
use Rattle.std.specs.Prelude.{MatchBool, ⊤}
use Rattle.std.proofs.lemmas.List.{append_cancel_left}
use Rattle.cdr_core.specs.Field.{Field, octet, ushort, ulong, text, octets, Fits}
use Rattle.cdr_core.specs.Spelling.{written}
use Rattle.cdr_core.specs.Cursor.{Cursor, Reads}
use Rattle.cdr_core.specs.Draft.{Draft, empty_draft, with_field}
use Rattle.cdr_core.specs.Fields.{with_fields}
use Rattle.poa_base.specs.declared.Profile.{Profile}
use Rattle.ior_text.specs.declared.body.ProfileBody.{ProfileBody}
use Rattle.ior_text.specs.Encapsulated.{inside}
use Rattle.ior_text.specs.Components.{HasComponents}
use Rattle.ior_text.specs.Body.{has_components, ReadsBody, HasBody}
use Rattle.ior_text.proofs.ReadingBack.{Stands, read_back}
use Rattle.ior_text.specs.declared.address.Address.{Address}
use Rattle.ior_text.specs.CorbalocProfile.{body_of, component_fields, profile_of}

-- fields are written behind what stood there
fields_grow : (fields : List Field) (d : Draft) → (more : List ℕ) × ((with_fields fields d).bytes ≡ d.bytes ++ more)
fields_grow [] d = ([], sym (append-nil d.bytes))
fields_grow (f ∷ fs) d =
    let others = fields_grow fs (with_field f d) in
    let first : List ℕ = written d.little (d.base + length d.bytes) f in
    (first ++ others.0, others.1 ∙ append_assoc d.bytes first others.0)

-- the cursor stands where the draft ends, and the fields that are written next are what is left
record Ahead (fields : List Field) (d : Draft) (c : Cursor) : Type 0 where
  stands : Stands d c
  whole : (with_fields fields d).bytes ≡ d.bytes ++ c.rest

-- the first of them is read
record First (field : Field) (fields : List Field) (d : Draft) (c : Cursor) : Type 0 where
  after : Cursor
  read : Reads field c after
  ahead : Ahead fields (with_field field d) after

first_read : (f : Field) (fs : List Field) (d : Draft) (c : Cursor) → Fits f → Ahead (f ∷ fs) d c → First f fs d c
first_read f fs d c fits ahead =
    let others = fields_grow fs (with_field f d) in
    let first : List ℕ = written d.little (d.base + length d.bytes) f in
    let rest : c.rest ≡ first ++ others.0 =
    append_cancel_left d.bytes _ _ (sym ahead.whole ∙ others.1 ∙ append_assoc d.bytes first others.0) in
    let one = read_back f d c others.0 fits ahead.stands rest in
    record {
      after = one.after;
      read = one.read;
      ahead = record {
        stands = one.stands;
        whole = others.1 ∙ ap (λ (m : List ℕ). (with_field f d).bytes ++ m) (sym one.rest);
      };
    }

no_components :
    (d : Draft) (c : Cursor) (counted : Bool) → Ahead (cond counted (ulong 0 ∷ []) []) d c → MatchBool counted (HasComponents c) ⊤
no_components d c false ahead = tt
no_components d c true ahead =
    let count = first_read (ulong 0) [] d c (omega arith) ahead in
    ([], record { counted = count.after; after = count.after; count = count.read; each = refl })

-- the profile that is written of an address has its version, host, port and key
pub profile_back :
    (address : Address) (key : List ℕ) → address.minor < 2 ^ 8 → length address.endpoint.host + 1 < 2 ^ 32 →
    address.endpoint.port < 2 ^ 16 → length key < 2 ^ 32 → HasBody (profile_of address key) (body_of address key)
profile_back address key minor_fits host_fits port_fits key_fits =
    let host : List ℕ = address.endpoint.host in
    let opened : Draft = with_field (octet 0) (empty_draft false 0) in
    let counted : List Field = component_fields address.minor in
    let keyed : List Field = octets key ∷ counted in
    let ported : List Field = ushort address.endpoint.port ∷ keyed in
    let hosted : List Field = text host ∷ ported in
    let versioned : List Field = octet address.minor ∷ hosted in
    let all = fields_grow (octet 1 ∷ versioned) opened in
    let start : Cursor = record { little = false; place = 1; rest = all.0 } in
    let ahead : Ahead (octet 1 ∷ versioned) opened start = record { stands = record { order = refl; place = refl }; whole = all.1 } in
    let major = first_read (octet 1) versioned opened start (omega arith) ahead in
    let minor = first_read (octet address.minor) hosted _ major.after minor_fits major.ahead in
    let name = first_read (text host) ported _ minor.after host_fits minor.ahead in
    let port = first_read (ushort address.endpoint.port) keyed _ name.after port_fits name.ahead in
    let id = first_read (octets key) counted _ port.after key_fits port.ahead in
    record {
      tag = refl;
      encloses = record {
        start = start;
        opened = ap inside all.1;
        read = record {
          behind_major = major.after;
          behind_minor = minor.after;
          behind_host = name.after;
          behind_port = port.after;
          behind_key = id.after;
          major = major.read;
          minor = minor.read;
          host = name.read;
          port = port.read;
          key = id.read;
          components = no_components _ id.after (has_components 1 address.minor) id.ahead;
        };
      };
    }
