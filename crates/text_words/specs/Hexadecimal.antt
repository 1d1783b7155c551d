-- Bytes in hexadecimal, two lower-case digits each, behind a prefix as `h:`.
use Rattle.std.specs.Prelude.{ℕ, ◌%◌, ◌==◌, ◌&&◌, ◌||◌, nat_le, false, List, length, take, drop, codes, Bool, Option, Some, None, Result, Ok, Err, if◌then◌else◌}
use Rattle.std.specs.List.{list_all}
use Rattle.std.specs.Result.{result_ok}
use Rattle.std.specs.Str.{bytes_eq}
use Rattle.text_words.specs.Chain.{◌>>=◌}
use Rattle.std.specs.Int.{from_be_bytes, to_be_bytes, w32}
use Rattle.hex.specs.Hex.{encode_lower, decode_of, decode_sized}
use Rattle.hex.specs.declared.error.FromHexError.{FromHexError}

-- the bytes that were decoded, where the text is the one in lower case
abbrev pub spelled_alike : List ℕ → Result (List ℕ) FromHexError → Option (List ℕ)
spelled_alike text (Ok bytes) = if bytes_eq (encode_lower bytes) text then Some bytes else None
spelled_alike text (Err e) = None

-- the bytes whose lower-case hexadecimal the text is
abbrev pub hex_of : List ℕ → Option (List ℕ)
hex_of text = spelled_alike text (decode_of text)

-- the bytes of a hexadecimal text in either case
abbrev pub any_hex_of : List ℕ → Option (List ℕ)
any_hex_of text = result_ok (decode_of text)

-- what stands behind the prefix, where the word has it
abbrev pub behind : List ℕ → List ℕ → Option (List ℕ)
behind prefix w = if bytes_eq prefix (take (length prefix) w) then Some (drop (length prefix) w) else None

-- the bytes of a word that is the prefix and hexadecimal
abbrev pub prefixed_of : List ℕ → List ℕ → Option (List ℕ)
prefixed_of prefix w = do
  text ← behind prefix w
  hex_of text

-- the number of the bytes that were decoded, where the text is that of the number
abbrev pub number_spelled : List ℕ → Result (List ℕ) FromHexError → Option ℕ
number_spelled text (Ok bytes) =
    let n = from_be_bytes w32 bytes in if bytes_eq (encode_lower (to_be_bytes w32 n)) text then Some n else None
number_spelled text (Err e) = None

-- the number of eight digits, as the minor of a system exception is written
abbrev pub minor_of : List ℕ → Option ℕ
minor_of w = number_spelled w (decode_sized w 4)

-- a digit of lower-case hexadecimal
abbrev pub is_lower_digit : ℕ → Bool
is_lower_digit c = (nat_le 48 c && nat_le c 57) || (nat_le 97 c && nat_le c 102)

-- two digits a byte
abbrev pub is_lower_hex : List ℕ → Bool
is_lower_hex text = length text % 2 == 0 && list_all is_lower_digit text

abbrev pub is_hex_behind : Option (List ℕ) → Bool
is_hex_behind None = false
is_hex_behind (Some text) = is_lower_hex text

-- the text of an interoperable object reference, as CORBA 3.3 Part 2, 7.6.9, writes it, in lower case
abbrev pub is_reference : List ℕ → Bool
is_reference w = is_hex_behind (behind (codes "IOR:") w)

-- the reference that a word is
abbrev pub reference_of : List ℕ → Option (List ℕ)
reference_of w = if is_reference w then Some w else None
