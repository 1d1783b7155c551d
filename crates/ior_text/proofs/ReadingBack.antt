-- What is written of a reference is read as that reference.
use Rattle.std.proofs.Common.{◌≡◌, ℕ, ◌+◌, false, List, [], ◌∷◌, ◌++◌, length, refl, sym, ◌∙◌, ap, ap₂, arith, append_assoc, append-nil, length-append, Ok}
use Rattle.std.specs.List.{AllByRecursion}
use Rattle.std.proofs.lemmas.List.{append_cancel_left}
use Rattle.std.proofs.lemmas.List.Elements.{recursion_from_All}
use Rattle.hex.specs.Hex.{IsBytes}
use Rattle.hex.proofs.HexLemmas.{decode_of-encode_lower}
use Rattle.cdr_core.specs.Field.{Field, octet, ulong, text, octets, Fits}
use Rattle.cdr_core.specs.Spelling.{written}
use Rattle.cdr_core.specs.Cursor.{Cursor, Reads}
use Rattle.cdr_core.specs.Draft.{Draft, empty_draft, with_field}
use Rattle.cdr_core.proofs.Written.{written_reads_back}
use Rattle.poa_base.specs.declared.Ior.{Ior}
use Rattle.poa_base.specs.declared.Profile.{Profile}
use Rattle.ior_text.specs.Encapsulated.{inside}
use Rattle.ior_text.specs.Tagged.{ReadsProfiles}
use Rattle.ior_text.specs.Encapsulation.{Encloses}
use Rattle.ior_text.specs.Text.{digits_of, TextGives}
use Rattle.ior_text.specs.Written.{with_profile, with_profiles, encapsulation, ior_text, IsProfile, IsIor}
use Rattle.ior_text.proofs.WrittenBytes.{IsBytes-append, IsBytes-zeros, IsBytes-text, IsBytes-ulong, IsBytes-profiles}

-- the cursor stands where the draft ends
pub record Stands (d : Draft) (c : Cursor) : Type 0 where
  pub order : c.little ≡ d.little
  pub place : c.place ≡ d.base + length d.bytes

-- the field that is written next is read, and what is left is left
pub record ReadBack (f : Field) (d : Draft) (c : Cursor) (more : List ℕ) : Type 0 where
  pub after : Cursor
  pub read : Reads f c after
  pub stands : Stands (with_field f d) after
  pub rest : after.rest ≡ more

pub read_back : (f : Field) (d : Draft) (c : Cursor) (more : List ℕ) → Fits f → Stands d c → c.rest ≡ written d.little (d.base + length d.bytes) f ++ more
    → ReadBack f d c more
read_back f d c more fits at rest =
    let same : written c.little c.place f ≡ written d.little (d.base + length d.bytes) f = ap₂ (λ l p. written l p f) at.order at.place in
    record {
      after = record c { place = c.place + length (written c.little c.place f); rest = more };
      read = written_reads_back f c more fits (rest ∙ ap (λ w. w ++ more) (sym same));
      stands = record {
        order = at.order;
        place = omega (arith, at.place, ap (λ w. length w) same, length-append d.bytes (written d.little (d.base + length d.bytes) f));
      };
      rest = refl;
    }

-- profiles are written behind what stood there
pub grows : (ps : List Profile) (d : Draft) → (more : List ℕ) × ((with_profiles ps d).bytes ≡ d.bytes ++ more)
grows [] d = ([], sym (append-nil d.bytes))
grows (p ∷ ps) d =
    let others = grows ps (with_profile p d) in
    let tag : List ℕ = written d.little (d.base + length d.bytes) (ulong p.tag) in
    let behind : Draft = with_field (ulong p.tag) d in
    let bytes : List ℕ = written behind.little (behind.base + length behind.bytes) (octets p.bytes) in
    (tag ++ (bytes ++ others.0), others.1 ∙ append_assoc (d.bytes ++ tag) bytes others.0 ∙ append_assoc d.bytes tag (bytes ++ others.0))

pub profiles_back : (ps : List Profile) (d : Draft) (c : Cursor) → AllByRecursion IsProfile ps → Stands d c → (with_profiles ps d).bytes ≡ d.bytes ++ c.rest
    → (after : Cursor) × ReadsProfiles ps c after
profiles_back [] d c all at whole = (c, refl)
profiles_back (p ∷ ps) d c all at whole =
    let others = grows ps (with_profile p d) in
    let tag : List ℕ = written d.little (d.base + length d.bytes) (ulong p.tag) in
    let tagged : Draft = with_field (ulong p.tag) d in
    let bytes : List ℕ = written tagged.little (tagged.base + length tagged.bytes) (octets p.bytes) in
    let rest : c.rest ≡ tag ++ (bytes ++ others.0) =
    append_cancel_left d.bytes _ _ (sym whole ∙ others.1 ∙ append_assoc (d.bytes ++ tag) bytes others.0 ∙ append_assoc d.bytes tag (bytes ++ others.0)) in
    let one = read_back (ulong p.tag) d c (bytes ++ others.0) all.0.tag at rest in
    let two = read_back (octets p.bytes) tagged one.after others.0 all.0.len one.stands one.rest in
    let left = profiles_back ps (with_profile p d) two.after all.1 two.stands (others.1 ∙ ap (λ m. (with_profile p d).bytes ++ m) (sym two.rest)) in
    (left.0, (two.after, record { tagged = one.after; tag = one.read; bytes = two.read }, left.1))

-- the encapsulation that is written of a reference encloses it
pub ior_back : (ior : Ior) → IsIor ior → Encloses (encapsulation ior) ior
ior_back ior fits =
    let opened : Draft = with_field (octet 0) (empty_draft false 0) in
    let name : List ℕ = written opened.little (opened.base + length opened.bytes) (text ior.type_id) in
    let named : Draft = with_field (text ior.type_id) opened in
    let count : List ℕ = written named.little (named.base + length named.bytes) (ulong (length ior.profiles)) in
    let counted : Draft = with_field (ulong (length ior.profiles)) named in
    let others = grows ior.profiles counted in
    let start : Cursor = record { little = false; place = 1; rest = name ++ (count ++ others.0) } in
    let whole : encapsulation ior ≡ 0 ∷ (name ++ (count ++ others.0)) = others.1 ∙ append_assoc (opened.bytes ++ name) count others.0
    ∙ append_assoc opened.bytes name (count ++ others.0) in
    let at : Stands opened start = record { order = refl; place = refl } in
    let one = read_back (text ior.type_id) opened start (count ++ others.0) fits.len at refl in
    let two = read_back (ulong (length ior.profiles)) named one.after others.0 fits.count one.stands one.rest in
    let left =
    profiles_back ior.profiles counted two.after (recursion_from_All IsProfile ior.profiles fits.profiles) two.stands
    (others.1 ∙ ap (λ m. counted.bytes ++ m) (sym two.rest)) in
    record {
      start = start;
      after = left.0;
      opened = ap inside whole;
      read = record { named = one.after; counted = two.after; type_id = one.read; count = two.read; profiles = left.1 };
    }

pub encapsulation_bytes : (ior : Ior) → IsIor ior → IsBytes (encapsulation ior)
encapsulation_bytes ior fits =
    let opened : Draft = with_field (octet 0) (empty_draft false 0) in
    let named : Draft = with_field (text ior.type_id) opened in
    let counted : Draft = with_field (ulong (length ior.profiles)) named in
    let name : IsBytes named.bytes =
    IsBytes-append opened.bytes (written false 1 (text ior.type_id)) (IsBytes-zeros 1) (IsBytes-text false 1 ior.type_id fits.type_id) in
    let count : IsBytes counted.bytes =
    IsBytes-append named.bytes (written named.little (named.base + length named.bytes) (ulong (length ior.profiles))) name
    (IsBytes-ulong named.little (named.base + length named.bytes) (length ior.profiles)) in
    IsBytes-profiles ior.profiles counted (recursion_from_All IsProfile ior.profiles fits.profiles) count

-- the text that is written of a reference gives it
pub text_back : (ior : Ior) → IsIor ior → TextGives (ior_text ior) (Ok ior)
text_back ior fits = record {
  bytes = encapsulation ior;
  stands = ap digits_of (decode_of-encode_lower (encapsulation ior) (encapsulation_bytes ior fits));
  encloses = ior_back ior fits;
}
