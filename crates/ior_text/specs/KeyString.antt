-- A key string (CORBA 3.3 Part 2, 7.6.10.1), which writes the bytes of an object key.
use Rattle.std.specs.Prelude.{◌≡◌, ℕ, ◌+◌, ◌-◌, ◌<◌, ◌==◌, ◌||◌, Bool, List, [], ◌∷◌, ◌++◌, length, codes, Result, Ok, Err, if◌then◌else◌}
use Rattle.std.specs.List.{list_any}
use Rattle.std.specs.Char.{is_ascii_alphanumeric}
use Rattle.hex.specs.Hex.{decode_of, encode_lower}
use Rattle.hex.specs.declared.error.FromHexError.{FromHexError}
use Rattle.ior_text.specs.declared.corbaloc_fault.LocFault.{LocFault}
use Rattle.ior_text.specs.declared.corbaloc_fault.LocFault.TheVariants.{BadKey}

-- letters, digits and these stand for themselves
abbrev pub stands_for_itself : ℕ → Bool
stands_for_itself c = is_ascii_alphanumeric c || list_any (λ x. x == c) (codes ";/:?@&=+$,-_.!~*'()")

-- bytes in front of those that were read behind them
abbrev pub onto : List ℕ → Result (List ℕ) LocFault → Result (List ℕ) LocFault
onto bytes (Ok key) = Ok (bytes ++ key)
onto bytes (Err fault) = Err fault

-- a byte that is written as itself
abbrev pub onto_plain : ℕ → ℕ → Result (List ℕ) LocFault → Result (List ℕ) LocFault
onto_plain at c more = if stands_for_itself c then onto (c ∷ []) more else Err (BadKey at)

-- a byte that is written by `%` and these two digits
abbrev pub onto_escaped : ℕ → Result (List ℕ) FromHexError → Result (List ℕ) LocFault → Result (List ℕ) LocFault
onto_escaped at (Ok bytes) more = onto bytes more
onto_escaped at (Err no_digit) more = Err (BadKey at)

-- the key that a key string writes, whose first byte has this place in the text, or the place of its first wrong byte;
-- 37 is `%`
abbrev pub key_at : ℕ → List ℕ → Result (List ℕ) LocFault
key_at at [] = Ok []
key_at at (c ∷ a ∷ b ∷ rest) =
    if c == 37 then onto_escaped at (decode_of (a ∷ b ∷ [])) (key_at (at + 3) rest)
    else onto_plain at c (key_at (at + 1) (a ∷ b ∷ rest))
key_at at (c ∷ few) = onto_plain at c (key_at (at + 1) few)

-- the key string begins with this byte, and goes on with the rest
pub record BeginsWith (byte : ℕ) (rest text : List ℕ) : Type 0 where
  pub shorter : length rest < length text
  pub reads : (at : ℕ) → key_at at text ≡ onto (byte ∷ []) (key_at (at + (length text - length rest)) rest)

-- the first byte of the key string is wrong
abbrev pub IsWrong : List ℕ → Type 0
IsWrong text = (at : ℕ) → key_at at text ≡ Err (BadKey at)

-- a byte as it is written: as itself, or by `%` and two small digits
abbrev pub byte_text : ℕ → List ℕ
byte_text c = if stands_for_itself c then c ∷ [] else 37 ∷ encode_lower (c ∷ [])

-- the key string of a key
abbrev pub key_text : List ℕ → List ℕ
key_text [] = []
key_text (c ∷ cs) = byte_text c ++ key_text cs
