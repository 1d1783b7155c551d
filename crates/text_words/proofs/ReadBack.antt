-- The text of a token, read again, gives the token's value.
use Rattle.std.proofs.Common.{◌≡◌, ℕ, ℤ, ◌+◌, ◌^◌, ◌<◌, ◌≤◌, ◌==◌, ◌&&◌, Bool, true, false, List, [], ◌∷◌, ◌++◌, length, Some, None, refl, ap, sym, ◌∙◌, arith, rules, suc, take, drop, cond, not, subst}
use Rattle.std.proofs.Math.Seq.{take-append_seam, drop-append_seam}
use Rattle.std.specs.Prelude.{pos, negsuc, codes, nat_le}
use Rattle.std.proofs.lemmas.Bool.{and_parts, and_from, le-leb, ne_eqb, false≢true}
use Rattle.std.proofs.lemmas.Bool.Decides.{nat_tests}
use Rattle.std.proofs.lemmas.Fmt.{decimal_is_IsNumeral, decimal_nonempty}
use Rattle.std.proofs.lemmas.Str.Parse.{tells_digits}
use Rattle.std.specs.Str.Parse.{AllDigits}
use Rattle.std.proofs.lemmas.Slice.Eq.{bytes_eq-Decides}
use Rattle.std.proofs.lemmas.Nat.{from_be_bytes-to_be_bytes_4}
use Rattle.std.specs.Fmt.{decimal, signed_decimal}
use Rattle.std.specs.Int.{to_be_bytes, w32}
use Rattle.std.specs.List.{list_all}
use Rattle.std.specs.Str.{bytes_eq}
use Rattle.hex.specs.Hex.{encode_lower, IsBytes}
use Rattle.hex.proofs.HexLemmas.{decode_of-encode_lower, decode_sized-encode_lower}
use Rattle.text_words.specs.Number.{number_of, port_of, signed_of, not_negated}
use Rattle.text_words.specs.Hexadecimal.{hex_of, prefixed_of, behind, minor_of, is_hex_behind, is_reference, reference_of}
use Rattle.std.proofs.lemmas.List.{take-append-drop}
use Rattle.text_words.specs.Name.{is_name, is_name_byte, name_of, is_host, host_of}
use Rattle.text_words.specs.Path.{below_root, path_text, all_names_of, path_of}
use Rattle.text_words.specs.Cuts.{lacks}
use Rattle.text_words.specs.Identity.{printed_id_of, id_of}
use Rattle.poa_base.specs.declared.Endpoint.{Endpoint}
use Rattle.text_words.specs.Parts.{endpoint_tokens, last_endpoint}
use Rattle.text_words.specs.Token.{AllFit, IsLong, texts}
use Rattle.text_words.proofs.Numbers.{number_back}
use Rattle.text_words.proofs.Tokens.{all_weaker}
use Rattle.text_words.proofs.Joining.{behind_each, cut_again}

same_text : (w : List ℕ) → bytes_eq w w ≡ true
same_text w = (bytes_eq-Decides w w).1 refl

pub hex_back : (bytes : List ℕ) → IsBytes bytes → hex_of (encode_lower bytes) ≡ Some bytes
hex_back bytes h = rw (decode_of-encode_lower bytes h, same_text (encode_lower bytes)) refl

pub behind_back : (prefix text : List ℕ) → behind prefix (prefix ++ text) ≡ Some text
behind_back prefix text = rw (take-append_seam prefix text, drop-append_seam prefix text, same_text prefix) refl

pub prefixed_back : (prefix bytes : List ℕ) → IsBytes bytes → prefixed_of prefix (prefix ++ encode_lower bytes) ≡ Some bytes
prefixed_back prefix bytes h = rw (behind_back prefix (encode_lower bytes), hex_back bytes h) refl

pub minor_back : (n : ℕ) → n < 2 ^ 32 → minor_of (encode_lower (to_be_bytes w32 n)) ≡ Some n
minor_back n h =
    rw (decode_sized-encode_lower (to_be_bytes w32 n) 4 refl (search rules), from_be_bytes-to_be_bytes_4 n h, same_text (encode_lower (to_be_bytes w32 n))) refl

pub name_back : (w : List ℕ) → is_name w ≡ true → name_of w ≡ Some w
name_back w h = rw h refl

pub host_back : (w : List ℕ) → is_host w ≡ true → host_of w ≡ Some w
host_back w h = rw h refl

-- digits stand with no `-` before them
digits_plain : (n : ℕ) (w : List ℕ) → n < 2 ^ 63 → w ≡ decimal n → signed_of w ≡ Some (pos n)
digits_plain n [] small e = let filled : 0 < length (decimal n) = decimal_nonempty n (omega arith) in absurd (omega (arith, ap length e))
digits_plain n (c ∷ cs) small e =
    let digits : AllDigits 10 (c ∷ cs) = subst (AllDigits 10) (sym e) (decimal_is_IsNumeral n (omega arith)).0.1 in
    let first = tells_digits.parts c cs digits in
    rw (ne_eqb c 45 (λ same. omega (arith, first.0.0)))
    (ap (λ w. not_negated (number_of (2 ^ 63) w)) e ∙ ap not_negated (number_back (2 ^ 63) n small (omega arith)))

pub signed_back : (z : ℤ) → IsLong z → signed_of (signed_decimal z) ≡ Some z
signed_back (pos n) h = digits_plain n (decimal n) h refl
signed_back (negsuc n) h =
    rw (number_back (2 ^ 63 + 1) (suc n) (omega arith) (omega arith), ne_eqb (suc n) 0 (λ same. omega arith)) (ap (λ k. Some (negsuc k)) (omega arith))

pub printed_id_back : (bytes : List ℕ) → length bytes ≤ 256 → IsBytes bytes → printed_id_of (codes "h:" ++ encode_lower bytes) ≡ Some bytes
printed_id_back bytes short h = rw (prefixed_back (codes "h:") bytes h, le-leb (length bytes) 256 short) refl

pub id_back : (bytes : List ℕ) → length bytes ≤ 256 → IsBytes bytes → id_of (codes "h:" ++ encode_lower bytes) ≡ Some bytes
id_back bytes short h = rw (decode_of-encode_lower bytes h, le-leb (length bytes) 256 short) refl

pub below_root_each : (names : List (List ℕ)) → below_root names ≡ behind_each 47 names
below_root_each [] = refl
below_root_each (n ∷ ns) = ap (λ more. (47 ∷ n) ++ more) (below_root_each ns)

all_names_back : (names : List (List ℕ)) → list_all is_name names ≡ true → all_names_of names ≡ Some names
all_names_back [] all = refl
all_names_back (n ∷ ns) all =
    let parts = and_parts (is_name n) (list_all is_name ns) all in
    rw (parts.0, all_names_back ns parts.1) refl

name_lacks : (w : List ℕ) → is_name w ≡ true → lacks 47 w ≡ true
name_lacks w h =
    let outer = and_parts (nat_le 1 (length w) && nat_le (length w) 64) (list_all is_name_byte w) h in
    all_weaker is_name_byte (λ c. not (c == 47)) (λ c fits. grind (arith, nat_tests)) w outer.1

names_lack : (names : List (List ℕ)) → list_all is_name names ≡ true → list_all (lacks 47) names ≡ true
names_lack [] all = refl
names_lack (n ∷ ns) all =
    let parts = and_parts (is_name n) (list_all is_name ns) all in
    and_from (lacks 47 n) (list_all (lacks 47) ns) (name_lacks n parts.0) (names_lack ns parts.1)

pub path_back : (names : List (List ℕ)) → length names ≤ 16 → list_all is_name names ≡ true → path_of (path_text names) ≡ Some names
path_back [] few all = refl
path_back ([] ∷ ns) few all = absurd (false≢true all)
path_back ((c ∷ cs) ∷ ns) few all =
    let parts = and_parts (is_name (c ∷ cs)) (list_all is_name ns) all in
    rw (
      below_root_each ns,
      cut_again 47 (c ∷ cs) ns (name_lacks (c ∷ cs) parts.0) (names_lack ns parts.1),
      all_names_back ((c ∷ cs) ∷ ns) all,
      le-leb
          (length ((c ∷ cs) ∷ ns)) 16 few,
    ) refl

pub reference_back : (w : List ℕ) → is_reference w ≡ true → reference_of w ≡ Some w
reference_back w h = rw h refl

pub port_back : (n : ℕ) → 1 ≤ n → n < 2 ^ 16 → port_of (decimal n) ≡ Some n
port_back n low high = rw (number_back (2 ^ 16) n high (omega arith), ne_eqb n 0 (λ same. omega arith)) refl

pub endpoint_back : (e : Endpoint) → AllFit (endpoint_tokens e) → last_endpoint (texts (endpoint_tokens e)) ≡ Some e
endpoint_back e h = rw (host_back e.host h.0, port_back e.port h.1.0.0 h.1.0.1) refl

reference_no_id_by : (w : List ℕ) (starts : Bool) → (starts ≡ true → codes "IOR:" ≡ take 4 w)
    → is_hex_behind (cond starts (Some (drop 4 w)) None) ≡ true → printed_id_of w ≡ None
reference_no_id_by w true starts h =
    let whole : codes "IOR:" ++ drop 4 w ≡ w = ap (λ front. front ++ drop 4 w) (starts refl) ∙ take-append-drop 4 w in
    subst (λ (v : List ℕ). printed_id_of v ≡ None) whole refl
reference_no_id_by w false starts h = absurd (false≢true h)

-- the text of a reference is no object id
pub reference_no_id : (w : List ℕ) → is_reference w ≡ true → printed_id_of w ≡ None
reference_no_id w h = reference_no_id_by w (bytes_eq (codes "IOR:") (take 4 w)) (bytes_eq-Decides (codes "IOR:") (take 4 w)).0 h
