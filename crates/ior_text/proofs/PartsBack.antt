-- The profile that is written of what one says is read as that.
use Rattle.std.proofs.Common.{◌≡◌, ℕ, ◌+◌, ◌<◌, ◌^◌, Bool, true, false, List, [], ◌∷◌, ◌++◌, length, refl, sym, ◌∙◌, ap, subst, arith, append_assoc, append-nil, cond}
use Rattle.std.specs.Prelude.{MatchBool, ⊤}
use Rattle.std.proofs.lemmas.List.{append_cancel_left}
use Rattle.std.proofs.lemmas.List.Elements.{recursion_from_All}
use Rattle.cdr_core.specs.Field.{Field, octet, ushort, ulong, text, octets, Fits}
use Rattle.cdr_core.specs.Spelling.{written}
use Rattle.cdr_core.specs.Cursor.{Cursor, Reads}
use Rattle.cdr_core.specs.Draft.{Draft, empty_draft, with_field}
use Rattle.poa_base.specs.declared.Profile.{Profile}
use Rattle.ior_text.specs.declared.parts.ProfileParts.{ProfileParts}
use Rattle.ior_text.specs.Encapsulated.{inside}
use Rattle.ior_text.specs.Components.{ReadsComponents}
use Rattle.ior_text.specs.Body.{has_components}
use Rattle.ior_text.specs.Written.{with_profiles, IsProfile}
use Rattle.ior_text.specs.Parts.{ReadsParts, HasParts, AreParts, FitsBody, FitComponents, with_components, profile_with}
use Rattle.ior_text.proofs.Bodies.{Versioned, parts_read}
use Rattle.ior_text.proofs.ReadingBack.{Stands, read_back, grows, profiles_back}

-- what is written follows what stood there
abbrev Grows : (Draft → Draft) → Type 0
Grows write = (d : Draft) → (more : List ℕ) × ((write d).bytes ≡ d.bytes ++ more)

-- a field, and then the rest
abbrev field_then : Field → (Draft → Draft) → Draft → Draft
field_then f write d = write (with_field f d)

field_grows : (f : Field) (write : Draft → Draft) → Grows write → Grows (field_then f write)
field_grows f write grow d =
    let others = grow (with_field f d) in
    let first : List ℕ = written d.little (d.base + length d.bytes) f in
    (first ++ others.0, others.1 ∙ append_assoc d.bytes first others.0)

-- the cursor stands where the draft ends, and what is written next is what is left
record Ahead (write : Draft → Draft) (d : Draft) (c : Cursor) : Type 0 where
  stands : Stands d c
  whole : (write d).bytes ≡ d.bytes ++ c.rest

-- the field is read
record First (f : Field) (write : Draft → Draft) (d : Draft) (c : Cursor) : Type 0 where
  after : Cursor
  read : Reads f c after
  ahead : Ahead write (with_field f d) after

first_read : (f : Field) (write : Draft → Draft) → Grows write → (d : Draft) (c : Cursor) → Fits f → Ahead (field_then f write) d c → First f write d c
first_read f write grow d c fits ahead =
    let others = grow (with_field f d) in
    let first : List ℕ = written d.little (d.base + length d.bytes) f in
    let rest : c.rest ≡ first ++ others.0 =
    append_cancel_left d.bytes _ _ (sym ahead.whole ∙ others.1 ∙ append_assoc d.bytes first others.0) in
    let one = read_back f d c others.0 fits ahead.stands rest in
    record {
      after = one.after;
      read = one.read;
      ahead = record {
        stands = one.stands;
        whole = others.1 ∙ ap (λ (m : List ℕ). (with_field f d).bytes ++ m) (sym one.rest);
      };
    }

-- components, where there are any
abbrev write_if : Bool → List Profile → Draft → Draft
write_if has components d = cond has (with_profiles components (with_field (ulong (length components)) d)) d

components_grow : (has : Bool) (components : List Profile) → Grows (write_if has components)
components_grow false components d = ([], sym (append-nil d.bytes))
components_grow true components d = field_grows (ulong (length components)) (with_profiles components) (grows components) d

components_back : (has : Bool) (components : List Profile) (d : Draft) (c : Cursor) → MatchBool has (FitComponents components) ⊤
    → MatchBool has ⊤ (components ≡ []) → Ahead (write_if has components) d c → MatchBool has (ReadsComponents components c) (components ≡ [])
components_back false components d c fit none ahead = none
components_back true components d c fit none ahead =
    let count = first_read (ulong (length components)) (with_profiles components) (grows components) d c fit.0 ahead in
    let each =
    profiles_back components (with_field (ulong (length components)) d) count.after (recursion_from_All IsProfile components fit.1) count.ahead.stands
    count.ahead.whole in
    record { counted = count.after; after = each.0; count = count.read; each = each.1 }

pub parts_back : (parts : ProfileParts) → FitsBody parts.body
    → MatchBool (has_components parts.body.major parts.body.minor) (FitComponents parts.components) ⊤ → AreParts parts
    → HasParts (profile_with parts) parts
parts_back parts fits fit are =
    let body = parts.body in
    let has : Bool = has_components body.major body.minor in
    let opened : Draft = with_field (octet 0) (empty_draft false 0) in
    let behind_key : Draft → Draft = write_if has parts.components in
    let behind_port : Draft → Draft = field_then (octets body.key) behind_key in
    let behind_host : Draft → Draft = field_then (ushort body.port) behind_port in
    let behind_minor : Draft → Draft = field_then (text body.host) behind_host in
    let behind_major : Draft → Draft = field_then (octet body.minor) behind_minor in
    let grow_key = components_grow has parts.components in
    let grow_port = field_grows (octets body.key) behind_key grow_key in
    let grow_host = field_grows (ushort body.port) behind_port grow_port in
    let grow_minor = field_grows (text body.host) behind_host grow_host in
    let grow_major = field_grows (octet body.minor) behind_minor grow_minor in
    let all = field_grows (octet body.major) behind_major grow_major opened in
    let start : Cursor = record { little = false; place = 1; rest = all.0 } in
    let ahead : Ahead (field_then (octet body.major) behind_major) opened start =
    record { stands = record { order = refl; place = refl }; whole = all.1 } in
    let major = first_read (octet body.major) behind_major grow_major opened start fits.major ahead in
    let minor = first_read (octet body.minor) behind_minor grow_minor _ major.after fits.minor major.ahead in
    let host = first_read (text body.host) behind_host grow_host _ minor.after fits.host minor.ahead in
    let port = first_read (ushort body.port) behind_port grow_port _ host.after fits.port host.ahead in
    let key = first_read (octets body.key) behind_key grow_key _ port.after fits.key port.ahead in
    record {
      tag = refl;
      start = start;
      opened = ap inside all.1;
      read = parts_read parts start minor.after host.after port.after key.after body.host body.key
          (record { behind_major = major.after; major_read = major.read; minor_read = minor.read }) host.read refl port.read key.read refl
          (components_back has parts.components _ key.after fit are key.ahead);
    }
