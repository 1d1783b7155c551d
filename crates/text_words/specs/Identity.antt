-- Object ids: `h:` and hexadecimal of at most 256 bytes, or `t:` and a name, which are the id's bytes.
use Rattle.std.specs.Prelude.{ℕ, nat_le, List, length, codes, Option, Some, None, if◌then◌else◌}
use Rattle.text_words.specs.Chain.{◌>>=◌}
use Rattle.text_words.specs.Name.{name_of}
use Rattle.text_words.specs.Hexadecimal.{behind, prefixed_of, any_hex_of}

-- an object id has at most 256 bytes
abbrev pub short_enough : List ℕ → Option (List ℕ)
short_enough bytes = if nat_le (length bytes) 256 then Some bytes else None

-- the id as it is printed: `h:` and lower-case hexadecimal
abbrev pub printed_id_of : List ℕ → Option (List ℕ)
printed_id_of w = do
  bytes ← prefixed_of (codes "h:") w
  short_enough bytes

abbrev pub hex_id_of : Option (List ℕ) → Option (List ℕ)
hex_id_of None = None
hex_id_of (Some text) = do
  bytes ← any_hex_of text
  short_enough bytes

abbrev pub named_or_hex_id_of : List ℕ → Option (List ℕ) → Option (List ℕ)
named_or_hex_id_of w (Some text) = name_of text
named_or_hex_id_of w None = hex_id_of (behind (codes "h:") w)

-- the id of a word in any of its spellings
abbrev pub id_of : List ℕ → Option (List ℕ)
id_of w = named_or_hex_id_of w (behind (codes "t:") w)
