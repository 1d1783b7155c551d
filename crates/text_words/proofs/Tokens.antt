-- The text of a token is a word: not empty, with no space and no end of line in it.
use Rattle.std.proofs.Common.{◌≡◌, ℕ, ◌/◌, ◌%◌, ◌^◌, ◌<◌, ◌≤◌, ◌==◌, ◌&&◌, Bool, true, false, not, List, [], ◌∷◌, ◌++◌, length, get_or, refl, ap, ◌∙◌, arith, rules, suc, ℤ, nat_le, take, drop, subst, cond, Some, None}
use Rattle.std.proofs.lemmas.List.{take-append-drop}
use Rattle.std.proofs.lemmas.Slice.Eq.{bytes_eq-Decides}
use Rattle.std.specs.Str.{bytes_eq}
use Rattle.text_words.specs.Hexadecimal.{is_lower_digit, is_hex_behind, is_reference}
use Rattle.std.proofs.lemmas.Bool.{and_parts, and_from, leb-true, lt-ltb, ltb-true, ne_eqb, not_from_false, agree_below_at, false≢true}
use Rattle.std.proofs.lemmas.Bool.Decides.{nat_tests}
use Rattle.std.proofs.lemmas.Str.Parse.{tells_digits}
use Rattle.std.proofs.lemmas.List.Folds.{list_all-append}
use Rattle.std.proofs.lemmas.Fmt.{decimal_is_IsNumeral}
use Rattle.std.specs.Prelude.{codes, pos, negsuc}
use Rattle.std.specs.List.{list_all}
use Rattle.std.specs.Fmt.{decimal, signed_decimal}
use Rattle.std.specs.Int.{to_be_bytes, w32}
use Rattle.std.specs.Str.Parse.{AllDigits}
use Rattle.hex.specs.Hex.{lower_digits, encode_with, encode_lower, IsBytes}
use Rattle.text_words.specs.Name.{is_alphanumeric, is_name_byte, is_host_byte, is_name, is_host}
use Rattle.text_words.specs.Path.{below_root, path_text}
use Rattle.text_words.specs.Cuts.{lacks, is_filled}
use Rattle.text_words.specs.Token.{Token, keyword, number, signed, minor, named, host, path, octets, identity, reference, port, spell, is_ink, is_word, IsLong, Fits}

-- a test that every element passes, by a weaker one
pub all_weaker : (p q : ℕ → Bool) → ((x : ℕ) → p x ≡ true → q x ≡ true) → (xs : List ℕ) → list_all p xs ≡ true → list_all q xs ≡ true
all_weaker p q weaker [] h = refl
all_weaker p q weaker (x ∷ xs) h =
    let parts = and_parts (p x) (list_all p xs) h in
    and_from (q x) (list_all q xs) (weaker x parts.0) (all_weaker p q weaker xs parts.1)

-- ink is neither a space nor the end of a line
ink_lacks : (s : ℕ) → s ≤ 32 → (xs : List ℕ) → list_all is_ink xs ≡ true → lacks s xs ≡ true
ink_lacks s low xs h =
    all_weaker is_ink (λ c. not (c == s)) (λ c ink. let more : 32 < c = ltb-true 32 c ink in not_from_false (c == s) (ne_eqb c s (λ same. omega arith))) xs h

above : (c low : ℕ) → 32 < low → low ≤ c → is_ink c ≡ true
above c low h k = lt-ltb 32 c (omega arith)

alphanumeric_ink : (c : ℕ) → is_alphanumeric c ≡ true → is_ink c ≡ true
alphanumeric_ink c h = grind (arith, nat_tests)

name_ink : (c : ℕ) → is_name_byte c ≡ true → is_ink c ≡ true
name_ink c h = grind (arith, nat_tests)

host_ink : (c : ℕ) → is_host_byte c ≡ true → is_ink c ≡ true
host_ink c h = grind (arith, nat_tests)

digits_ink : (ds : List ℕ) → AllDigits 10 ds → list_all is_ink ds ≡ true
digits_ink [] h = refl
digits_ink (c ∷ cs) h =
    let first = tells_digits.parts c cs h in
    and_from (is_ink c) (list_all is_ink cs) (above c 48 (omega arith) first.0.0) (digits_ink cs first.1)

hex_digit_ink : (k : ℕ) → k < 16 → is_ink (get_or lower_digits k 0) ≡ true
hex_digit_ink k h = agree_below_at (λ n. is_ink (get_or lower_digits n 0)) (λ n. true) 16 k refl h

hex_ink : (bytes : List ℕ) → IsBytes bytes → list_all is_ink (encode_lower bytes) ≡ true
unfolding encode_with
hex_ink [] h = refl
hex_ink (b ∷ bs) h =
    let small : b < 256 = h 0 in
    let high : b / 16 < 16 = omega arith in
    let low : b % 16 < 16 = omega arith in
    and_from _ _ (hex_digit_ink (b / 16) high) (and_from _ _ (hex_digit_ink (b % 16) low) (hex_ink bs (λ i. h (suc i))))

-- hexadecimal of one byte or more is not empty
hex_filled : (b : ℕ) (bs : List ℕ) → 0 < length (encode_lower (b ∷ bs))
unfolding encode_with
hex_filled b bs = omega arith

-- ink that is not empty is a word
word_from_ink : (w : List ℕ) → 0 < length w → list_all is_ink w ≡ true → is_word w ≡ true
word_from_ink [] filled h = absurd (omega arith)
word_from_ink (c ∷ cs) filled h = h

ink_from_word : (w : List ℕ) → is_word w ≡ true → list_all is_ink w ≡ true
ink_from_word [] h = refl
ink_from_word (c ∷ cs) h = h

-- more ink behind a word
word_longer : (w more : List ℕ) → is_word w ≡ true → list_all is_ink more ≡ true → is_word (w ++ more) ≡ true
word_longer [] more h k = absurd (false≢true h)
word_longer (c ∷ cs) more h k = list_all-append is_ink (c ∷ cs) more ∙ and_from _ _ h k

decimal_word : (n : ℕ) → n < 2 ^ 64 → is_word (decimal n) ≡ true
decimal_word n h = let numeral = (decimal_is_IsNumeral n h).0 in word_from_ink (decimal n) numeral.0 (digits_ink (decimal n) numeral.1)

signed_word : (z : ℤ) → IsLong z → is_word (signed_decimal z) ≡ true
signed_word (pos n) h = decimal_word n (omega arith)
signed_word (negsuc n) h =
    and_from true (list_all is_ink (decimal (suc n))) refl (ink_from_word (decimal (suc n)) (decimal_word (suc n) (omega arith)))

name_word : (w : List ℕ) → is_name w ≡ true → is_word w ≡ true
name_word w h =
    let outer = and_parts (nat_le 1 (length w) && nat_le (length w) 64) (list_all is_name_byte w) h in
    let bounds = and_parts (nat_le 1 (length w)) (nat_le (length w) 64) outer.0 in
    let filled : 1 ≤ length w = leb-true 1 (length w) bounds.0 in
    word_from_ink w (omega arith) (all_weaker is_name_byte is_ink name_ink w outer.1)

host_word : (w : List ℕ) → is_host w ≡ true → is_word w ≡ true
host_word w h =
    let outer = and_parts (nat_le 1 (length w) && nat_le (length w) 255) (list_all is_host_byte w) h in
    let bounds = and_parts (nat_le 1 (length w)) (nat_le (length w) 255) outer.0 in
    let filled : 1 ≤ length w = leb-true 1 (length w) bounds.0 in
    word_from_ink w (omega arith) (all_weaker is_host_byte is_ink host_ink w outer.1)

below_root_ink : (names : List (List ℕ)) → list_all is_name names ≡ true → list_all is_ink (below_root names) ≡ true
below_root_ink [] h = refl
below_root_ink (n ∷ ns) h =
    let parts = and_parts (is_name n) (list_all is_name ns) h in
    list_all-append is_ink (47 ∷ n) (below_root ns)
    ∙ and_from (list_all is_ink (47 ∷ n)) (list_all is_ink (below_root ns)) (ink_from_word n (name_word n parts.0)) (below_root_ink ns parts.1)

path_word : (names : List (List ℕ)) → list_all is_name names ≡ true → is_word (path_text names) ≡ true
path_word [] h = refl
path_word (n ∷ ns) h = below_root_ink (n ∷ ns) h

lower_digit_ink : (c : ℕ) → is_lower_digit c ≡ true → is_ink c ≡ true
lower_digit_ink c h = grind (arith, nat_tests)

reference_word_by : (w : List ℕ) (starts : Bool) → (starts ≡ true → codes "IOR:" ≡ take 4 w)
    → is_hex_behind (cond starts (Some (drop 4 w)) None) ≡ true → is_word w ≡ true
reference_word_by w true starts h =
    let whole : codes "IOR:" ++ drop 4 w ≡ w = ap (λ front. front ++ drop 4 w) (starts refl) ∙ take-append-drop 4 w in
    let digits = (and_parts (length (drop 4 w) % 2 == 0) (list_all is_lower_digit (drop 4 w)) h).1 in
    subst (λ (v : List ℕ). is_word v ≡ true) whole
    (word_longer (codes "IOR:") (drop 4 w) refl (all_weaker is_lower_digit is_ink lower_digit_ink (drop 4 w) digits))
reference_word_by w false starts h = absurd (false≢true h)

reference_word : (w : List ℕ) → is_reference w ≡ true → is_word w ≡ true
reference_word w h = reference_word_by w (bytes_eq (codes "IOR:") (take 4 w)) (bytes_eq-Decides (codes "IOR:") (take 4 w)).0 h

-- the text of a token is a word
pub printable : (t : Token) → Fits t → is_word (spell t) ≡ true
printable (keyword w) h = h
printable (number limit n) h = decimal_word n (omega arith)
printable (signed z) h = signed_word z h
printable (minor n) h = word_from_ink (encode_lower (to_be_bytes w32 n)) (hex_filled _ _) (hex_ink (to_be_bytes w32 n) (search rules))
printable (named w) h = name_word w h
printable (host w) h = host_word w h
printable (port n) h = decimal_word n (omega arith)
printable (path names) h = path_word names h.1
printable (octets prefix bytes) h = word_longer prefix (encode_lower bytes) h.0 (hex_ink bytes h.1)
printable (identity bytes) h = word_longer (codes "h:") (encode_lower bytes) refl (hex_ink bytes h.1)
printable (reference w) h = reference_word w h

-- a word has neither a space nor an end of line
pub word_lacks : (s : ℕ) → s ≤ 32 → (w : List ℕ) → is_word w ≡ true → lacks s w ≡ true
word_lacks s low w h = ink_lacks s low w (ink_from_word w h)

pub word_filled : (w : List ℕ) → is_word w ≡ true → is_filled w ≡ true
word_filled [] h = absurd (false≢true h)
word_filled (c ∷ cs) h = not_from_false (length (c ∷ cs) == 0) (ne_eqb (length (c ∷ cs)) 0 (λ same. omega arith))
