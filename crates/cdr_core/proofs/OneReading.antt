-- Laws of readings, for the proofs of crates above: a place has at most one field of a kind, and none where the
-- kind is refused.
use Rattle.std.proofs.Common.{◌≡◌, ℕ, ◌+◌, ◌^◌, ◌<◌, ℤ, Bool, List, [], ◌∷◌, ◌++◌, length, refl, sym, ap, ◌∙◌, subst, inl, inr, arith, append_assoc, length-append}
use Rattle.std.proofs.lemmas.List.{same_from_push, append-nil}
use Rattle.std.specs.Int.{w32}
use Rattle.cdr_core.specs.Kind.{unit_of}
use Rattle.cdr_core.specs.Field.{Field, octet, ushort, ulong, longlong, boolean, text, octets, kind_of}
use Rattle.cdr_core.specs.Spelling.{gap, number_bytes}
use Rattle.cdr_core.specs.Cursor.{Cursor, Passes, Reads, Counts, EndsInNul}
use Rattle.cdr_core.specs.Laws.{OneReading, OneSkip}
use Rattle.cdr_core.proofs.Bodies.{same_split, text_body, one_octet, one_boolean, one_longlong, one_ushort, one_ulong}

-- two cursors with equal parts are equal
pub same_cursor : (a b : Cursor) → a.little ≡ b.little → a.place ≡ b.place → a.rest ≡ b.rest → a ≡ b
same_cursor a b order place rest =
    let by_order : Bool → Cursor = λ x. record { little = x; place = a.place; rest = a.rest } in
    let by_place : ℕ → Cursor = λ x. record { little = b.little; place = x; rest = a.rest } in
    let by_rest : List ℕ → Cursor = λ x. record { little = b.little; place = b.place; rest = x } in
    ap by_order order ∙ ap by_place place ∙ ap by_rest rest

-- what was passed in front of one rest ends at one cursor
pub same_end : (xs ys : List ℕ) (c a b : Cursor) → Passes xs c a → Passes ys c b → a.rest ≡ b.rest → a ≡ b
same_end xs ys c a b p q rest =
    let left : length c.rest ≡ length xs + length a.rest =
    ap (λ l. length l) p.split ∙ length-append xs a.rest in
    let right : length c.rest ≡ length ys + length b.rest =
    ap (λ l. length l) q.split ∙ length-append ys b.rest in
    same_cursor a b (p.order ∙ sym q.order)
    (omega (arith, p.moved, q.moved, left, right, ap (λ l. length l) rest)) rest

-- bytes of one number that are passed are the same bytes, and end at one cursor
pub same_pass : (xs ys : List ℕ) (c a b : Cursor) → length xs ≡ length ys → Passes xs c a → Passes ys c b → (xs ≡ ys) × (a ≡ b)
same_pass xs ys c a b same p q =
    let both : (xs ≡ ys) × (a.rest ≡ b.rest) =
    same_split xs ys a.rest b.rest same (sym p.split ∙ q.split) in
    (both.0, same_end xs ys c a b p q both.1)

-- behind their padding two fields of one kind have the same bytes before them
after_padding : (f g : Field) (c a b : Cursor) (p : Reads f c a) (q : Reads g c b) → kind_of f ≡ kind_of g → p.spelled.body ++ a.rest ≡ q.spelled.body ++ b.rest
after_padding f g c a b p q kinds =
    let xs : List ℕ = p.spelled.padding in
    let ys : List ℕ = q.spelled.padding in
    let left : c.rest ≡ xs ++ (p.spelled.body ++ a.rest) =
    p.passed.split ∙ ap (λ l. l ++ a.rest) p.spelled.parts ∙ append_assoc xs p.spelled.body a.rest in
    let right : c.rest ≡ ys ++ (q.spelled.body ++ b.rest) =
    q.passed.split ∙ ap (λ l. l ++ b.rest) q.spelled.parts ∙ append_assoc ys q.spelled.body b.rest in
    let lengths : length xs ≡ length ys =
    p.spelled.aligned ∙ ap (λ k. gap (unit_of k) c.place) kinds ∙ sym q.spelled.aligned in
    (same_split xs ys (p.spelled.body ++ a.rest) (q.spelled.body ++ b.rest) lengths (sym left ∙ right)).1

-- where the values of a kind are told by their bodies, a place has one of them
by_body : {V : Type 0} (field : V → Field) (v w : V) (c a b : Cursor) (p : Reads (field v) c a) (q : Reads (field w) c b)
    → kind_of (field v) ≡ kind_of (field w) → (p.spelled.body ++ a.rest ≡ q.spelled.body ++ b.rest → (v ≡ w) × (a.rest ≡ b.rest)) → (v ≡ w) × (a ≡ b)
by_body field v w c a b p q kinds told =
    let both : (v ≡ w) × (a.rest ≡ b.rest) = told (after_padding (field v) (field w) c a b p q kinds) in
    (both.0, same_end p.bytes q.bytes c a b p.passed q.passed both.1)

pub one_octet_read : (m n : ℕ) (c a b : Cursor) → Reads (octet m) c a → Reads (octet n) c b → (m ≡ n) × (a ≡ b)
one_octet_read m n c a b p q =
    by_body octet m n c a b p q refl
    (λ e. one_octet c.little m n _ _ _ _ p.spelled.stands q.spelled.stands e)

pub one_ushort_read : (m n : ℕ) (c a b : Cursor) → Reads (ushort m) c a → Reads (ushort n) c b → (m ≡ n) × (a ≡ b)
one_ushort_read m n c a b p q =
    by_body ushort m n c a b p q refl
    (λ e. one_ushort c.little m n _ _ _ _ p.spelled.fits q.spelled.fits p.spelled.stands q.spelled.stands e)

pub one_ulong_read : (m n : ℕ) (c a b : Cursor) → Reads (ulong m) c a → Reads (ulong n) c b → (m ≡ n) × (a ≡ b)
one_ulong_read m n c a b p q =
    by_body ulong m n c a b p q refl
    (λ e. one_ulong c.little m n _ _ _ _ p.spelled.fits q.spelled.fits p.spelled.stands q.spelled.stands e)

pub one_longlong_read : (m n : ℤ) (c a b : Cursor) → Reads (longlong m) c a → Reads (longlong n) c b → (m ≡ n) × (a ≡ b)
one_longlong_read m n c a b p q =
    by_body longlong m n c a b p q refl
    (λ e. one_longlong c.little m n _ _ _ _ p.spelled.fits q.spelled.fits p.spelled.stands q.spelled.stands e)

pub one_boolean_read : (m n : Bool) (c a b : Cursor) → Reads (boolean m) c a → Reads (boolean n) c b → (m ≡ n) × (a ≡ b)
one_boolean_read m n c a b p q =
    by_body boolean m n c a b p q refl
    (λ e. one_boolean c.little m n _ _ _ _ p.spelled.stands q.spelled.stands e)

-- a place has one list of counted bytes
pub one_count : (xs ys : List ℕ) (c a b : Cursor) → Counts xs c a → Counts ys c b → (xs ≡ ys) × (a ≡ b)
one_count xs ys c a b p q =
    let count : (length xs ≡ length ys) × (p.behind ≡ q.behind) =
    one_ulong_read (length xs) (length ys) c p.behind q.behind p.counted q.counted in
    same_pass xs ys p.behind a b count.0 p.passed
    (subst (λ (x : Cursor). Passes ys x b) (sym count.1) q.passed)

-- a field that is spelled by a length and as many bytes passes these
counts_of : (f : Field) (bytes : List ℕ) (c a : Cursor) (p : Reads f c a) → unit_of (kind_of f) ≡ 4 → length bytes < 2 ^ 32
    → p.spelled.body ≡ number_bytes c.little w32 (length bytes) ++ bytes → Counts bytes c a
counts_of f bytes c a p unit small is_body =
    let number : List ℕ = number_bytes c.little w32 (length bytes) in
    let padding : List ℕ = p.spelled.padding in
    let whole : p.bytes ≡ (padding ++ number) ++ bytes =
    p.spelled.parts ∙ ap (λ l. padding ++ l) is_body ∙ sym (append_assoc padding number bytes) in
    record {
      behind = record {
        little = c.little;
        place = c.place + length (padding ++ number);
        rest = bytes ++ a.rest;
      };
      counted = record {
        bytes = padding ++ number;
        spelled = record {
          padding = padding;
          body = number;
          fits = small;
          aligned = p.spelled.aligned ∙ ap (λ u. gap u c.place) unit;
          stands = inl refl;
          parts = refl;
        };
        passed = record {
          order = refl;
          moved = refl;
          split = p.passed.split ∙ ap (λ l. l ++ a.rest) whole ∙ append_assoc (padding ++ number) bytes a.rest;
        };
      };
      passed = record {
        order = p.passed.order;
        moved = omega (arith, p.passed.moved, ap (λ l. length l) whole, length-append (padding ++ number) bytes);
        split = refl;
      };
    }

-- a sequence of octets is its count and its octets
pub octets_counts : (xs : List ℕ) (c a : Cursor) → Reads (octets xs) c a → Counts xs c a
octets_counts xs c a p =
    counts_of (octets xs) xs c a p refl p.spelled.fits
    (elim p.spelled.stands [ inl e ↦ e | inr e ↦ absurd (no_text e.0) ])
  where
    no_text : octets xs ≡ text [] → ⊥
    no_text e = cc

-- a string is its length and bytes that end in NUL, or none
pub text_counts : (xs : List ℕ) (c a : Cursor) → Reads (text xs) c a → (bytes : List ℕ) × (EndsInNul xs bytes × Counts bytes c a)
text_counts xs c a p =
    elim p.spelled.stands [
      | inl e ↦ (
        xs ++ 0 ∷ [],
        (
          inl refl,
          counts_of (text xs) (xs ++ 0 ∷ []) c a p refl (omega (arith, length-append xs (0 ∷ []), p.spelled.fits)) (e ∙ text_body c.little xs),
        ),
      )
      | inr e ↦ (
        [],
        (
          inr (refl, no_bytes e.0),
          counts_of (text xs) [] c a p refl (omega arith) (e.1 ∙ sym (append-nil (number_bytes c.little w32 0))),
        ),
      )
    ]
  where
    no_bytes : text xs ≡ text [] → xs ≡ []
    no_bytes e = cc

-- bytes are those of one string
pub same_front : (xs ys bytes : List ℕ) → EndsInNul xs bytes → EndsInNul ys bytes → xs ≡ ys
same_front xs ys bytes (inl p) (inl q) = (same_from_push xs ys 0 0 (sym p ∙ q)).0
same_front xs ys bytes (inl p) (inr q) =
    absurd (omega (arith, ap (λ l. length l) (sym p ∙ q.0), length-append xs (0 ∷ [])))
same_front xs ys bytes (inr p) (inl q) =
    absurd (omega (arith, ap (λ l. length l) (sym q ∙ p.0), length-append ys (0 ∷ [])))
same_front xs ys bytes (inr p) (inr q) = p.1 ∙ sym q.1

pub one_octets_read : (xs ys : List ℕ) (c a b : Cursor) → Reads (octets xs) c a → Reads (octets ys) c b → (xs ≡ ys) × (a ≡ b)
one_octets_read xs ys c a b p q = one_count xs ys c a b (octets_counts xs c a p) (octets_counts ys c b q)

pub one_text_read : (xs ys : List ℕ) (c a b : Cursor) → Reads (text xs) c a → Reads (text ys) c b → (xs ≡ ys) × (a ≡ b)
one_text_read xs ys c a b p q =
    let left : (bytes : List ℕ) × (EndsInNul xs bytes × Counts bytes c a) = text_counts xs c a p in
    let right : (bytes : List ℕ) × (EndsInNul ys bytes × Counts bytes c b) = text_counts ys c b q in
    let both : (left.0 ≡ right.0) × (a ≡ b) = one_count left.0 right.0 c a b left.1.1 right.1.1 in
    (same_front xs ys right.0 (subst (λ (l : List ℕ). EndsInNul xs l) both.0 left.1.0) right.1.0, both.1)

pub one_reading : OneReading
one_reading (octet m) (octet n) c a b same p q =
    let both : (m ≡ n) × (a ≡ b) = one_octet_read m n c a b p q in (ap octet both.0, both.1)
one_reading (ushort m) (ushort n) c a b same p q =
    let both : (m ≡ n) × (a ≡ b) = one_ushort_read m n c a b p q in (ap ushort both.0, both.1)
one_reading (ulong m) (ulong n) c a b same p q =
    let both : (m ≡ n) × (a ≡ b) = one_ulong_read m n c a b p q in (ap ulong both.0, both.1)
one_reading (longlong m) (longlong n) c a b same p q =
    let both : (m ≡ n) × (a ≡ b) = one_longlong_read m n c a b p q in (ap longlong both.0, both.1)
one_reading (boolean m) (boolean n) c a b same p q =
    let both : (m ≡ n) × (a ≡ b) = one_boolean_read m n c a b p q in (ap boolean both.0, both.1)
one_reading (text m) (text n) c a b same p q =
    let both : (m ≡ n) × (a ≡ b) = one_text_read m n c a b p q in (ap text both.0, both.1)
one_reading (octets m) (octets n) c a b same p q =
    let both : (m ≡ n) × (a ≡ b) = one_octets_read m n c a b p q in (ap octets both.0, both.1)
one_reading f g c a b same p q = let other : ⊥ = cc in absurd other

pub one_skip : OneSkip
one_skip unit c a b p q =
    (same_pass p.padding q.padding c a b (p.aligned ∙ sym q.aligned) p.passed q.passed).1
