-- The words that a value is written in. From its list of tokens follow its text, its words and the range of its parts.
use Rattle.std.specs.Prelude.{◌≡◌, ℕ, ℤ, pos, negsuc, ◌^◌, ◌<◌, ◌≤◌, nat_lt, Bool, true, false, List, [], ◌∷◌, ◌++◌, length, codes, decimal}
use Rattle.std.specs.Fmt.{signed_decimal}
use Rattle.std.specs.List.{list_all}
use Rattle.std.specs.Int.{to_be_bytes, w32}
use Rattle.hex.specs.Hex.{encode_lower, IsBytes}
use Rattle.text_words.specs.Name.{is_name, is_host}
use Rattle.text_words.specs.Hexadecimal.{is_reference}
use Rattle.text_words.specs.Path.{path_text}

pub data Token : Type 0 where
  keyword : List ℕ → Token  -- a word that stands as it is
  number : ℕ → ℕ → Token  -- a number below the limit
  signed : ℤ → Token  -- a 64-bit number with a sign
  minor : ℕ → Token  -- a 32-bit number in eight hexadecimal digits
  named : List ℕ → Token
  host : List ℕ → Token
  port : ℕ → Token  -- from 1 to 65535
  path : List (List ℕ) → Token
  octets : List ℕ → List ℕ → Token  -- a prefix, and bytes in hexadecimal
  identity : List ℕ → Token  -- an object id
  reference : List ℕ → Token  -- the text of an IOR

abbrev pub spell : Token → List ℕ
spell (keyword w) = w
spell (number limit n) = decimal n
spell (signed z) = signed_decimal z
spell (minor n) = encode_lower (to_be_bytes w32 n)
spell (named w) = w
spell (host w) = w
spell (port n) = decimal n
spell (path names) = path_text names
spell (octets prefix bytes) = prefix ++ encode_lower bytes
spell (identity bytes) = codes "h:" ++ encode_lower bytes
spell (reference w) = w

-- neither a space nor the end of a line
abbrev pub is_ink : ℕ → Bool
is_ink c = nat_lt 32 c

-- a word that can stand in a line: not empty, and of ink alone
abbrev pub is_word : List ℕ → Bool
is_word [] = false
is_word (c ∷ cs) = list_all is_ink (c ∷ cs)

-- a number that 64 bits with a sign hold
abbrev pub IsLong : ℤ → Type 0
IsLong (pos n) = n < 2 ^ 63
IsLong (negsuc n) = n < 2 ^ 63

-- the values that have a text
abbrev pub Fits : Token → Type 0
Fits (keyword w) = is_word w ≡ true
Fits (number limit n) = (n < limit) × (limit ≤ 2 ^ 64)
Fits (signed z) = IsLong z
Fits (minor n) = n < 2 ^ 32
Fits (named w) = is_name w ≡ true
Fits (host w) = is_host w ≡ true
Fits (port n) = (1 ≤ n) × (n < 2 ^ 16)
Fits (path names) = (length names ≤ 16) × (list_all is_name names ≡ true)
Fits (octets prefix bytes) = (is_word prefix ≡ true) × IsBytes bytes
Fits (identity bytes) = (length bytes ≤ 256) × IsBytes bytes
Fits (reference w) = is_reference w ≡ true

abbrev pub AllFit : List Token → Type 0
AllFit [] = Unit {0}
AllFit (t ∷ ts) = Fits t × AllFit ts

-- the words of a line
abbrev pub texts : List Token → List (List ℕ)
texts [] = []
texts (t ∷ ts) = spell t ∷ texts ts

-- words behind what stands in a line already, each behind one space
abbrev pub tails : List Token → List ℕ
tails [] = []
tails (t ∷ ts) = 32 ∷ spell t ++ tails ts

-- a line without its end
abbrev pub spelled : List Token → List ℕ
spelled [] = []
spelled (t ∷ ts) = spell t ++ tails ts
