-- Whether a number stands at a cursor is decided.
use Rattle.std.proofs.Common.{◌≡◌, ℕ, ◌+◌, ◌^◌, ◌<◌, ◌≤◌, Bool, true, false, List, ◌++◌, length, take, drop, ltb, refl, sym, ap, ◌∙◌, arith, inl, inr, append_assoc, length-append}
use Rattle.std.proofs.lemmas.Bool.Decides.{Decides-ltb}
use Rattle.std.proofs.lemmas.List.{take_at, drop_at, take-append-drop, length-take-le}
use Rattle.std.proofs.lemmas.Nat.{from_le_bytes-to_le_bytes_2, from_be_bytes-to_be_bytes_2, from_le_bytes-to_le_bytes_4, from_be_bytes-to_be_bytes_4}
use Rattle.std.proofs.lemmas.Slice.Eq.{bytes_eq-Decides}
use Rattle.std.specs.Int.{w16, w32, from_le_bytes, from_be_bytes}
use Rattle.std.specs.Prelude.{slice_index_or, bytes_eq}
use Rattle.cdr_core.specs.Kind.{unit_of}
use Rattle.cdr_core.specs.Field.{Field, octet, ushort, ulong, kind_of, Fits}
use Rattle.cdr_core.specs.Spelling.{gap, body_of, IsBody}
use Rattle.cdr_core.specs.Cursor.{Cursor, Reads}
use Rattle.cdr_core.proofs.Bodies.{one_body, short_length, long_length}
use Rattle.giop_msg.proofs.Deciding.{Decided, decided_by, at_most_decided, decided_both, Stands}

-- a field of numbers below a limit, whose bytes tell its number
record Numbered (field : ℕ → Field) (size limit : ℕ) : Type 0 where
  value : Bool → List ℕ → ℕ
  unit : (n : ℕ) → unit_of (kind_of (field n)) ≡ size
  low : (n : ℕ) → Fits (field n) → n < limit
  fits : (n : ℕ) → n < limit → Fits (field n)
  long : (little : Bool) (n : ℕ) → length (body_of little (field n)) ≡ size
  told : (little : Bool) (n : ℕ) → n < limit → value little (body_of little (field n)) ≡ n
  one : (little : Bool) (n : ℕ) (body : List ℕ) → IsBody little (field n) body → body ≡ body_of little (field n)

abbrev octet_value : Bool → List ℕ → ℕ
octet_value little bytes = slice_index_or bytes 0 0

octet_numbered : Numbered octet 1 (2 ^ 8)
octet_numbered = record {
  value = octet_value;
  unit = λ n. refl;
  low = λ n h. h;
  fits = λ n h. h;
  long = λ little n. refl;
  told = λ little n h. refl;
  one = λ little n body is. one_body little (octet n) body (λ k. cc) is;
}

abbrev ushort_value : Bool → List ℕ → ℕ
ushort_value true bytes = from_le_bytes w16 bytes
ushort_value false bytes = from_be_bytes w16 bytes

ushort_told : (little : Bool) (n : ℕ) → n < 2 ^ 16 → ushort_value little (body_of little (ushort n)) ≡ n
ushort_told true n h = from_le_bytes-to_le_bytes_2 n h
ushort_told false n h = from_be_bytes-to_be_bytes_2 n h

ushort_numbered : Numbered ushort 2 (2 ^ 16)
ushort_numbered = record {
  value = ushort_value;
  unit = λ n. refl;
  low = λ n h. h;
  fits = λ n h. h;
  long = short_length;
  told = ushort_told;
  one = λ little n body is. one_body little (ushort n) body (λ k. cc) is;
}

abbrev ulong_value : Bool → List ℕ → ℕ
ulong_value true bytes = from_le_bytes w32 bytes
ulong_value false bytes = from_be_bytes w32 bytes

ulong_told : (little : Bool) (n : ℕ) → n < 2 ^ 32 → ulong_value little (body_of little (ulong n)) ≡ n
ulong_told true n h = from_le_bytes-to_le_bytes_4 n h
ulong_told false n h = from_be_bytes-to_be_bytes_4 n h

ulong_numbered : Numbered ulong 4 (2 ^ 32)
ulong_numbered = record {
  value = ulong_value;
  unit = λ n. refl;
  low = λ n h. h;
  fits = λ n h. h;
  long = long_length;
  told = ulong_told;
  one = λ little n body is. one_body little (ulong n) body (λ k. cc) is;
}

-- the bytes behind the padding of such a field
abbrev body_at : ℕ → Cursor → List ℕ
body_at size c = take size (drop (gap size c.place) c.rest)

-- they are the field's, where one stands there
record HasBody (field : ℕ → Field) (size : ℕ) (n : ℕ) (c : Cursor) : Type 0 where
  whole : gap size c.place + size ≤ length c.rest
  body : body_at size c ≡ body_of c.little (field n)

has_body : (field : ℕ → Field) (size limit : ℕ) → Numbered field size limit → (n : ℕ) (c after : Cursor) → Reads (field n) c after → HasBody field size n c
has_body field size limit is n c after p =
    let padding = p.spelled.padding in
    let body = p.spelled.body in
    let same : body ≡ body_of c.little (field n) = is.one c.little n body p.spelled.stands in
    let long : length body ≡ size = ap (λ l. length l) same ∙ is.long c.little n in
    let padded : length padding ≡ gap size c.place = p.spelled.aligned ∙ ap (λ u. gap u c.place) (is.unit n) in
    let split : c.rest ≡ padding ++ (body ++ after.rest) = p.passed.split ∙ ap (λ l. l ++ after.rest) p.spelled.parts ∙ append_assoc padding body after.rest in
    let behind : drop (gap size c.place) c.rest ≡ body ++ after.rest = ap (drop (gap size c.place)) split
    ∙ drop_at padding (body ++ after.rest) (gap size c.place) padded in
    record {
      whole = omega (arith, ap (λ l. length l) split, length-append padding (body ++ after.rest), length-append body after.rest, long, padded);
      body = ap (take size) behind ∙ take_at body after.rest size long ∙ same;
    }

-- and so the field stands
field_at : (field : ℕ → Field) (size limit : ℕ) → Numbered field size limit → (n : ℕ) (c : Cursor) → gap size c.place + size ≤ length c.rest → n < limit
    → body_of c.little (field n) ≡ body_at size c → Stands ℕ (λ (m : ℕ). Reads (field m)) c
field_at field size limit is n c whole low same =
    let padding = take (gap size c.place) c.rest in
    let behind = drop (gap size c.place) c.rest in
    let body = take size behind in
    let padded : length padding ≡ gap size c.place = length-take-le (gap size c.place) c.rest (omega (arith, whole)) in
    let after : Cursor = record { little = c.little; place = c.place + length (padding ++ body); rest = drop size behind } in
    let split : c.rest ≡ (padding ++ body) ++ drop size behind =
    sym (take-append-drop (gap size c.place) c.rest) ∙ ap (λ l. padding ++ l) (sym (take-append-drop size behind))
    ∙ sym (append_assoc padding body (drop size behind)) in (
      n,
      after,
      record {
        bytes = padding ++ body;
        spelled = record {
          padding = padding;
          body = body;
          fits = is.fits n low;
          aligned = padded ∙ ap (λ u. gap u c.place) (sym (is.unit n));
          stands = inl (sym same);
          parts = refl;
        };
        passed = record { order = refl; moved = refl; split = split };
      },
    )

-- the number that the bytes tell is the only one that may stand there
field_by_value : (field : ℕ → Field) (size limit : ℕ) (is : Numbered field size limit) (c : Cursor) → gap size c.place + size ≤ length c.rest
    → Decided ((is.value c.little (body_at size c) < limit) × (body_of c.little (field (is.value c.little (body_at size c))) ≡ body_at size c))
    → Decided (Stands ℕ (λ (m : ℕ). Reads (field m)) c)
field_by_value field size limit is c whole (inl told) = inl (field_at field size limit is (is.value c.little (body_at size c)) c whole told.0 told.1)
field_by_value field size limit is c whole (inr none) =
    inr (λ s. let has = has_body field size limit is s.0 c s.1 s.2 in
    let low : s.0 < limit = is.low s.0 s.2.spelled.fits in
    let same : is.value c.little (body_at size c) ≡ s.0 = ap (is.value c.little) has.body ∙ is.told c.little s.0 low in
    none (omega (arith, same, low), ap (λ (m : ℕ). body_of c.little (field m)) same ∙ sym has.body))

field_decided : (field : ℕ → Field) (size limit : ℕ) → Numbered field size limit → (c : Cursor) → Decided (gap size c.place + size ≤ length c.rest)
    → Decided (Stands ℕ (λ (m : ℕ). Reads (field m)) c)
field_decided field size limit is c (inl whole) =
    let n = is.value c.little (body_at size c) in
    field_by_value field size limit is c whole
    (decided_both (n < limit) (body_of c.little (field n) ≡ body_at size c) (decided_by (n < limit) (ltb n limit) (Decides-ltb n limit))
    (decided_by (body_of c.little (field n) ≡ body_at size c) (bytes_eq (body_of c.little (field n)) (body_at size c))
    (bytes_eq-Decides (body_of c.little (field n)) (body_at size c))))
field_decided field size limit is c (inr short) = inr (λ s. short (has_body field size limit is s.0 c s.1 s.2).whole)

number_decided : (field : ℕ → Field) (size limit : ℕ) → Numbered field size limit → (c : Cursor) → Decided (Stands ℕ (λ (m : ℕ). Reads (field m)) c)
number_decided field size limit is c =
    field_decided field size limit is c
    (at_most_decided (gap size c.place + size) (length c.rest))

pub octet_decided : (c : Cursor) → Decided (Stands ℕ (λ (n : ℕ). Reads (octet n)) c)
octet_decided = number_decided octet 1 (2 ^ 8) octet_numbered

pub ushort_decided : (c : Cursor) → Decided (Stands ℕ (λ (n : ℕ). Reads (ushort n)) c)
ushort_decided = number_decided ushort 2 (2 ^ 16) ushort_numbered

pub ulong_decided : (c : Cursor) → Decided (Stands ℕ (λ (n : ℕ). Reads (ulong n)) c)
ulong_decided = number_decided ulong 4 (2 ^ 32) ulong_numbered
