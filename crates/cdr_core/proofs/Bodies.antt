-- The bytes of a field say which value of its kind it has, and where it ends.
use Rattle.std.proofs.Common.{◌≡◌, ℕ, ◌+◌, ◌^◌, ◌<◌, ◌≤◌, ℤ, Bool, true, false, List, [], ◌∷◌, ◌++◌, length, take, drop, to_z, of_z, FitsSigned, if◌then◌else◌, refl, sym, ap, ◌∙◌, inl, inr, arith, append_assoc, length-append}
use Rattle.std.proofs.Math.Facts.{to_z-of_z, Fits-of_z, Fits-lt-pow}
use Rattle.std.proofs.lemmas.List.{take_at, drop_at}
use Rattle.std.proofs.lemmas.Nat.{from_le_bytes-to_le_bytes_2, from_be_bytes-to_be_bytes_2, from_le_bytes-to_le_bytes_4, from_be_bytes-to_be_bytes_4, from_le_bytes-to_le_bytes_8, from_be_bytes-to_be_bytes_8}
use Rattle.std.specs.Int.{w16, w32, w64, from_le_bytes, from_be_bytes}
use Rattle.cdr_core.specs.Kind.{Text, unit_of}
use Rattle.cdr_core.specs.Field.{Field, octet, ushort, ulong, longlong, boolean, text, octets, kind_of}
use Rattle.cdr_core.specs.Spelling.{number_bytes, body_of, IsBody}

-- the octet of a boolean
abbrev pub bit_of : Bool → ℕ
bit_of b = if b then 1 else 0

-- two fronts of one length, of one list, are equal, and so is what follows them
pub same_split : (xs ys s t : List ℕ) → length xs ≡ length ys → xs ++ s ≡ ys ++ t → (xs ≡ ys) × (s ≡ t)
same_split xs ys s t same e = (
  sym (take_at xs s (length xs) refl) ∙ ap (λ l. take (length xs) l) e ∙ take_at ys t (length xs) (sym same),
  sym (drop_at xs s (length xs) refl) ∙ ap (λ l. drop (length xs) l) e ∙ drop_at ys t (length xs) (sym same),
)

-- numbers with the same bytes are equal
pub same_short : (little : Bool) (m n : ℕ) → m < 2 ^ 16 → n < 2 ^ 16 → number_bytes little w16 m ≡ number_bytes little w16 n → m ≡ n
same_short true m n p q e =
    sym (from_le_bytes-to_le_bytes_2 m p) ∙ ap (λ l. from_le_bytes w16 l) e ∙ from_le_bytes-to_le_bytes_2 n q
same_short false m n p q e =
    sym (from_be_bytes-to_be_bytes_2 m p) ∙ ap (λ l. from_be_bytes w16 l) e ∙ from_be_bytes-to_be_bytes_2 n q

pub same_long : (little : Bool) (m n : ℕ) → m < 2 ^ 32 → n < 2 ^ 32 → number_bytes little w32 m ≡ number_bytes little w32 n → m ≡ n
same_long true m n p q e =
    sym (from_le_bytes-to_le_bytes_4 m p) ∙ ap (λ l. from_le_bytes w32 l) e ∙ from_le_bytes-to_le_bytes_4 n q
same_long false m n p q e =
    sym (from_be_bytes-to_be_bytes_4 m p) ∙ ap (λ l. from_be_bytes w32 l) e ∙ from_be_bytes-to_be_bytes_4 n q

pub same_longlong : (little : Bool) (m n : ℕ) → m < 2 ^ 64 → n < 2 ^ 64 → number_bytes little w64 m ≡ number_bytes little w64 n → m ≡ n
same_longlong true m n p q e =
    sym (from_le_bytes-to_le_bytes_8 m p) ∙ ap (λ l. from_le_bytes w64 l) e ∙ from_le_bytes-to_le_bytes_8 n q
same_longlong false m n p q e =
    sym (from_be_bytes-to_be_bytes_8 m p) ∙ ap (λ l. from_be_bytes w64 l) e ∙ from_be_bytes-to_be_bytes_8 n q

-- the bytes of a number are as many as its width has
pub short_length : (little : Bool) (n : ℕ) → length (number_bytes little w16 n) ≡ 2
short_length true n = refl
short_length false n = refl

pub long_length : (little : Bool) (n : ℕ) → length (number_bytes little w32 n) ≡ 4
long_length true n = refl
long_length false n = refl

pub longlong_length : (little : Bool) (n : ℕ) → length (number_bytes little w64 n) ≡ 8
longlong_length true n = refl
longlong_length false n = refl

-- only the empty string has two bodies
pub one_body : (little : Bool) (f : Field) (x : List ℕ) → (kind_of f ≡ Text → ⊥) → IsBody little f x → x ≡ body_of little f
one_body little f x other (inl e) = e
one_body little f x other (inr e) = absurd (other (ap kind_of e.0))

-- where the bodies of two fields, of one length, begin one list, they are equal, and so is what follows
pub same_bodies : (little : Bool) (f g : Field) (x y s t : List ℕ) → (kind_of f ≡ Text → ⊥) → (kind_of g ≡ Text → ⊥)
    → length (body_of little f) ≡ length (body_of little g) → IsBody little f x → IsBody little g y → x ++ s ≡ y ++ t → (body_of little f ≡ body_of little g)
    × (s ≡ t)
same_bodies little f g x y s t not_f not_g same p q e =
    same_split (body_of little f) (body_of little g) s t same
    (ap (λ l. l ++ s) (sym (one_body little f x not_f p)) ∙ e ∙ ap (λ l. l ++ t) (one_body little g y not_g q))

-- two numbers or booleans of one kind are equal where their bodies begin one list, and so is what follows
pub one_octet : (little : Bool) (m n : ℕ) (x y s t : List ℕ) → IsBody little (octet m) x → IsBody little (octet n) y → x ++ s ≡ y ++ t → (m ≡ n) × (s ≡ t)
one_octet little m n x y s t p q e =
    let both : (m ∷ [] ≡ n ∷ []) × (s ≡ t) =
    same_bodies little (octet m) (octet n) x y s t (λ k. cc) (λ k. cc) refl p q e in
    let heads : m ≡ n = cc in (heads, both.1)

pub one_ushort : (little : Bool) (m n : ℕ) (x y s t : List ℕ) → m < 2 ^ 16 → n < 2 ^ 16 → IsBody little (ushort m) x → IsBody little (ushort n) y
    → x ++ s ≡ y ++ t → (m ≡ n) × (s ≡ t)
one_ushort little m n x y s t i j p q e =
    let both : (number_bytes little w16 m ≡ number_bytes little w16 n) × (s ≡ t) =
    same_bodies little (ushort m) (ushort n) x y s t (λ k. cc) (λ k. cc)
    (short_length little m ∙ sym (short_length little n)) p q e in
    (same_short little m n i j both.0, both.1)

pub one_ulong : (little : Bool) (m n : ℕ) (x y s t : List ℕ) → m < 2 ^ 32 → n < 2 ^ 32 → IsBody little (ulong m) x → IsBody little (ulong n) y → x ++ s ≡ y ++ t
    → (m ≡ n) × (s ≡ t)
one_ulong little m n x y s t i j p q e =
    let both : (number_bytes little w32 m ≡ number_bytes little w32 n) × (s ≡ t) =
    same_bodies little (ulong m) (ulong n) x y s t (λ k. cc) (λ k. cc)
    (long_length little m ∙ sym (long_length little n)) p q e in
    (same_long little m n i j both.0, both.1)

pub one_longlong : (little : Bool) (m n : ℤ) (x y s t : List ℕ) → FitsSigned w64 m → FitsSigned w64 n → IsBody little (longlong m) x
    → IsBody little (longlong n) y → x ++ s ≡ y ++ t → (m ≡ n) × (s ≡ t)
one_longlong little m n x y s t i j p q e =
    let both : (number_bytes little w64 (of_z w64 m) ≡ number_bytes little w64 (of_z w64 n)) × (s ≡ t) =
    same_bodies little (longlong m) (longlong n) x y s t (λ k. cc) (λ k. cc)
    (longlong_length little (of_z w64 m) ∙ sym (longlong_length little (of_z w64 n))) p q e in
    let bits : of_z w64 m ≡ of_z w64 n =
    same_longlong little (of_z w64 m) (of_z w64 n) (Fits-lt-pow (Fits-of_z i)) (Fits-lt-pow (Fits-of_z j)) both.0 in
    (sym (to_z-of_z i) ∙ ap (λ b. to_z w64 b) bits ∙ to_z-of_z j, both.1)

pub one_boolean : (little : Bool) (a b : Bool) (x y s t : List ℕ) → IsBody little (boolean a) x → IsBody little (boolean b) y → x ++ s ≡ y ++ t → (a ≡ b)
    × (s ≡ t)
one_boolean little a b x y s t p q e =
    let both : (bit_of a ∷ [] ≡ bit_of b ∷ []) × (s ≡ t) =
    same_bodies little (boolean a) (boolean b) x y s t (λ k. cc) (λ k. cc) refl p q e in
    let heads : bit_of a ≡ bit_of b = cc in (same_bit a b heads, both.1)
  where
    same_bit : (a b : Bool) → bit_of a ≡ bit_of b → a ≡ b
    same_bit true true h = refl
    same_bit true false h = let no : ⊥ = omega (arith, h) in absurd no
    same_bit false true h = let no : ⊥ = omega (arith, h) in absurd no
    same_bit false false h = refl

-- a string is spelled as the octets that it has with its NUL
pub text_body : (little : Bool) (xs : List ℕ) → body_of little (text xs) ≡ number_bytes little w32 (length (xs ++ 0 ∷ [])) ++ (xs ++ 0 ∷ [])
text_body little xs =
    append_assoc (number_bytes little w32 (length xs + 1)) xs (0 ∷ [])
    ∙ ap (λ n. number_bytes little w32 n ++ (xs ++ 0 ∷ [])) (sym (length-append xs (0 ∷ [])))

-- a body has at least as many bytes as its alignment
pub body_length : (little : Bool) (f : Field) (x : List ℕ) → IsBody little f x → unit_of (kind_of f) ≤ length x
body_length little (octet n) x p =
    omega (arith, ap (λ l. length l) (one_body little (octet n) x (λ k. cc) p))
body_length little (ushort n) x p =
    omega (arith, ap (λ l. length l) (one_body little (ushort n) x (λ k. cc) p), short_length little n)
body_length little (ulong n) x p =
    omega (arith, ap (λ l. length l) (one_body little (ulong n) x (λ k. cc) p), long_length little n)
body_length little (longlong z) x p =
    omega (arith, ap (λ l. length l) (one_body little (longlong z) x (λ k. cc) p), longlong_length little (of_z w64 z))
body_length little (boolean b) x p =
    omega (arith, ap (λ l. length l) (one_body little (boolean b) x (λ k. cc) p))
body_length little (text xs) x (inl e) =
    let count : List ℕ = number_bytes little w32 (length xs + 1) in
    omega (arith, ap (λ l. length l) e, length-append (count ++ xs) (0 ∷ []), length-append count xs, long_length little (length xs + 1))
body_length little (text xs) x (inr e) = omega (arith, ap (λ l. length l) e.1, long_length little 0)
body_length little (octets xs) x p =
    let count : List ℕ = number_bytes little w32 (length xs) in
    omega (arith, ap (λ l. length l) (one_body little (octets xs) x (λ k. cc) p), length-append count xs, long_length little (length xs))
