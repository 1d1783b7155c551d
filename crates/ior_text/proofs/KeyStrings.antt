-- Key strings, byte by byte.
use Rattle.std.proofs.Common.{◌≡◌, ◌≢◌, ℕ, ◌+◌, ◌-◌, ◌<◌, ◌≤◌, Bool, true, false, List, [], ◌∷◌, ◌++◌, length, zero, suc, Some, None, Result, Ok, Err, take, drop, take_all, get_or, refl, sym, ◌∙◌, ap, subst, arith, append_assoc, cond}
use Rattle.std.specs.Result.{result_ok}
use Rattle.std.proofs.lemmas.Bool.{ne_eqb, false≢true}
use Rattle.hex.specs.Hex.{decode_of, encode_lower, encode_with, IsBytes}
use Rattle.hex.specs.declared.error.FromHexError.{FromHexError}
use Rattle.hex.proofs.HexLemmas.{decode_of-encode_lower}
use Rattle.ior_text.specs.declared.corbaloc_fault.LocFault.{LocFault}
use Rattle.ior_text.specs.declared.corbaloc_fault.LocFault.TheVariants.{BadKey}
use Rattle.ior_text.specs.KeyString.{stands_for_itself, onto, onto_plain, key_at, BeginsWith, IsWrong, key_text}

pub onto-nil : (more : Result (List ℕ) LocFault) → more ≡ onto [] more
onto-nil (Ok key) = refl
onto-nil (Err fault) = refl

pub onto-onto :
    (xs ys : List ℕ) (more : Result (List ℕ) LocFault) → onto xs (onto ys more) ≡ onto (xs ++ ys) more
onto-onto xs ys (Ok key) = ap (λ (l : List ℕ). Ok l) (sym (append_assoc xs ys key))
onto-onto xs ys (Err fault) = refl

-- a byte that isn't `%` is read alone
plain_at : (at c : ℕ) (rest : List ℕ) → c ≢ 37 → key_at at (c ∷ rest) ≡ onto_plain at c (key_at (at + 1) rest)
plain_at at c [] other = refl
plain_at at c (a ∷ []) other = refl
plain_at at c (a ∷ b ∷ rest) other = rw (ne_eqb c 37 other) refl

pub begins_plain : (c : ℕ) (rest : List ℕ) → c ≢ 37 → stands_for_itself c ≡ true → BeginsWith c rest (c ∷ rest)
begins_plain c rest other stands = record {
  shorter = omega arith;
  reads = λ at.
      let place : at + 1 ≡ at + (length (c ∷ rest) - length rest) = omega arith in
      plain_at at c rest other ∙ rw stands (ap (λ (p : ℕ). onto (c ∷ []) (key_at p rest)) place);
}

pub wrong_plain : (c : ℕ) (rest : List ℕ) → c ≢ 37 → stands_for_itself c ≡ false → IsWrong (c ∷ rest)
wrong_plain c rest other stands at = plain_at at c rest other ∙ rw stands refl

-- a `%` and two digits
begins_escaped :
    (a b byte : ℕ) (rest : List ℕ) → decode_of (a ∷ b ∷ []) ≡ Ok (byte ∷ []) → BeginsWith byte rest (37 ∷ a ∷ b ∷ rest)
begins_escaped a b byte rest digits = record {
  shorter = omega arith;
  reads = λ at.
      let place : at + 3 ≡ at + (length (37 ∷ a ∷ b ∷ rest) - length rest) = omega arith in
      rw digits (ap (λ (p : ℕ). onto (byte ∷ []) (key_at p rest)) place);
}

wrong_escaped : (a b : ℕ) (rest : List ℕ) (fault : FromHexError) → decode_of (a ∷ b ∷ []) ≡ Err fault → IsWrong (37 ∷ a ∷ b ∷ rest)
wrong_escaped a b rest fault no_digit at = rw no_digit refl

-- what two digits tell
begins_decoded :
    (a b byte : ℕ) (rest : List ℕ) (digits : Result (List ℕ) FromHexError) → decode_of (a ∷ b ∷ []) ≡ digits →
    Some (byte ∷ []) ≡ result_ok digits → BeginsWith byte rest (37 ∷ a ∷ b ∷ rest)
begins_decoded a b byte rest (Ok bytes) is tells =
    let same : byte ∷ [] ≡ bytes = cc in
    begins_escaped a b byte rest (is ∙ ap (λ (l : List ℕ). Ok l) (sym same))
begins_decoded a b byte rest (Err fault) is tells = cc

pub begins_pair :
    (a b byte : ℕ) (rest : List ℕ) → Some (byte ∷ []) ≡ result_ok (decode_of (a ∷ b ∷ [])) →
    BeginsWith byte rest (37 ∷ a ∷ b ∷ rest)
begins_pair a b byte rest tells = begins_decoded a b byte rest (decode_of (a ∷ b ∷ [])) refl tells

-- the same of the first two bytes of a text
pub begins_front :
    (text : List ℕ) (byte : ℕ) → 2 ≤ length text →
    Some (byte ∷ []) ≡ result_ok (decode_of (get_or text 0 0 ∷ get_or text 1 0 ∷ [])) →
    BeginsWith byte (take (length text - 2) (drop 2 text)) (37 ∷ text)
begins_front [] byte enough tells = absurd (omega arith)
begins_front (a ∷ []) byte enough tells = absurd (omega arith)
begins_front (a ∷ b ∷ rest) byte enough tells =
    let whole : take (length (a ∷ b ∷ rest) - 2) rest ≡ rest = take_all (length (a ∷ b ∷ rest) - 2) rest (omega arith) in
    subst (λ (r : List ℕ). BeginsWith byte r (37 ∷ a ∷ b ∷ rest)) (sym whole) (begins_pair a b byte rest tells)

wrong_decoded :
    (a b : ℕ) (rest : List ℕ) (digits : Result (List ℕ) FromHexError) → decode_of (a ∷ b ∷ []) ≡ digits →
    None ≡ result_ok digits → IsWrong (37 ∷ a ∷ b ∷ rest)
wrong_decoded a b rest (Ok bytes) is tells = cc
wrong_decoded a b rest (Err fault) is tells = wrong_escaped a b rest fault is

pub wrong_pair : (a b : ℕ) (rest : List ℕ) → None ≡ result_ok (decode_of (a ∷ b ∷ [])) → IsWrong (37 ∷ a ∷ b ∷ rest)
wrong_pair a b rest tells = wrong_decoded a b rest (decode_of (a ∷ b ∷ [])) refl tells

-- a `%` with fewer than two bytes behind it
pub wrong_short : (rest : List ℕ) → length rest < 2 → IsWrong (37 ∷ rest)
wrong_short [] short at = refl
wrong_short (a ∷ []) short at = refl
wrong_short (a ∷ b ∷ rest) short at = absurd (omega arith)

-- some bytes of a key string that ends where the text ends were read, and the rest is still to be read
pub record ReadSome (end : ℕ) (key_string rest key : List ℕ) : Type 0 where
  pub inside : length rest ≤ end
  pub so_far : key_at (end - length key_string) key_string ≡ onto key (key_at (end - length rest) rest)

pub read_none : (end : ℕ) (key_string : List ℕ) → length key_string ≤ end → ReadSome end key_string key_string []
read_none end key_string inside = record { inside = inside; so_far = onto-nil (key_at (end - length key_string) key_string) }

pub read_more :
    (end : ℕ) (key_string rest behind key : List ℕ) (byte : ℕ) → ReadSome end key_string rest key →
    BeginsWith byte behind rest → ReadSome end key_string behind (key ++ byte ∷ [])
read_more end key_string rest behind key byte some begins =
    let bound : length rest ≤ end = some.inside in
    let less : length behind < length rest = begins.shorter in
    let place : end - length rest + (length rest - length behind) ≡ end - length behind = omega arith in
    record {
      inside = omega arith;
      so_far = some.so_far ∙ ap (onto key) (begins.reads (end - length rest))
          ∙ onto-onto key (byte ∷ []) (key_at (end - length rest + (length rest - length behind)) behind)
          ∙ ap (λ (at : ℕ). onto (key ++ byte ∷ []) (key_at at behind)) place;
    }

pub read_wrong :
    (end : ℕ) (key_string rest key : List ℕ) → ReadSome end key_string rest key → IsWrong rest →
    key_at (end - length key_string) key_string ≡ Err (BadKey (end - length rest))
read_wrong end key_string rest key some wrong = some.so_far ∙ ap (onto key) (wrong (end - length rest))

one_byte : (c : ℕ) → c < 256 → IsBytes (c ∷ [])
one_byte c small zero = small
one_byte c small (suc i) = omega arith

-- what is written of a key is read as that key
byte_back :
    (c : ℕ) (rest key : List ℕ) (at : ℕ) (b : Bool) → c < 256 → stands_for_itself c ≡ b →
    ((p : ℕ) → key_at p rest ≡ Ok key) →
    key_at at (cond b (c ∷ []) (37 ∷ encode_lower (c ∷ [])) ++ rest) ≡ Ok (c ∷ key)
unfolding encode_with
byte_back c rest key at true small stands others =
    let other : c ≢ 37 = λ same. false≢true (sym (ap stands_for_itself same) ∙ stands) in
    plain_at at c rest other ∙ rw (stands, others (at + 1)) refl
byte_back c rest key at false small stands others =
    rw (decode_of-encode_lower (c ∷ []) (one_byte c small), others (at + 3)) refl

pub key_back : (key : List ℕ) → IsBytes key → (at : ℕ) → key_at at (key_text key) ≡ Ok key
key_back [] bytes at = refl
key_back (c ∷ cs) bytes at =
    byte_back c (key_text cs) cs at (stands_for_itself c) (bytes 0) refl (key_back cs (λ i. bytes (suc i)))
