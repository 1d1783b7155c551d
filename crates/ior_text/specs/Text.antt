-- The reference of a text (CORBA 3.3 Part 2, 7.6.9): `IOR:` and the hexadecimal of an encapsulation, every letter
-- in either case.
use Rattle.std.specs.Prelude.{◌≡◌, ℕ, ◌+◌, ◌==◌, ◌||◌, ◌&&◌, Bool, if◌then◌else◌, List, ◌∷◌, Option, Some, None, Result, Ok, Err}
use Rattle.hex.specs.Hex.{decode_of}
use Rattle.hex.specs.declared.error.FromHexError.{FromHexError}
use Rattle.hex.specs.declared.error.FromHexError.TheVariants.{InvalidHexCharacter, OddLength, InvalidStringLength, OutOfMemory}
use Rattle.poa_base.specs.declared.Ior.{Ior}
use Rattle.ior_text.specs.declared.fault.IorFault.{IorFault}
use Rattle.ior_text.specs.declared.fault.IorFault.TheVariants.{NoPrefix, OddDigits, BadDigit, Malformed, WantMemory}
use Rattle.ior_text.specs.Encapsulation.{Encloses, Spoils}

-- the capital letter or the small one, which in ASCII is 32 above
abbrev pub is_letter : ℕ → ℕ → Bool
is_letter capital c = c == capital || c == capital + 32

-- what stands behind `IOR:`
abbrev pub behind_prefix : List ℕ → Option (List ℕ)
behind_prefix (i ∷ o ∷ r ∷ colon ∷ digits) =
    if is_letter 73 i && is_letter 79 o && is_letter 82 r && colon == 58 then Some digits else None
behind_prefix short = None

-- a fault of the digits, whose first has place 4 in the text
abbrev pub digit_fault : FromHexError → IorFault
digit_fault OddLength = OddDigits
digit_fault (InvalidHexCharacter _ i) = BadDigit (4 + i)
digit_fault InvalidStringLength = OddDigits
digit_fault OutOfMemory = WantMemory

-- the bytes of the digits, or their fault
abbrev pub digits_of : Result (List ℕ) FromHexError → Result (List ℕ) IorFault
digits_of (Ok bytes) = Ok bytes
digits_of (Err fault) = Err (digit_fault fault)

-- the same of what stands behind the prefix, where there is one
abbrev pub prefixed_of : Option (List ℕ) → Result (List ℕ) IorFault
prefixed_of None = Err NoPrefix
prefixed_of (Some digits) = digits_of (decode_of digits)

-- the bytes that a text stands for: first the prefix is looked at, then the number of digits, then each digit
abbrev pub bytes_of : List ℕ → Result (List ℕ) IorFault
bytes_of text = prefixed_of (behind_prefix text)

-- the text stands for these bytes, and they are an encapsulation of the reference
pub record GivesIor (text : List ℕ) (ior : Ior) : Type 0 where
  pub bytes : List ℕ
  pub stands : bytes_of text ≡ Ok bytes
  pub encloses : Encloses bytes ior

-- the text stands for bytes whose first unreadable field begins at this place
pub record GivesMalformed (text : List ℕ) (at : ℕ) : Type 0 where
  pub bytes : List ℕ
  pub stands : bytes_of text ≡ Ok bytes
  pub spoils : Spoils bytes at

-- what reading a text gives; of memory the text says nothing
abbrev pub TextGives : List ℕ → Result Ior IorFault → Type 0
TextGives text (Ok ior) = GivesIor text ior
TextGives text (Err NoPrefix) = bytes_of text ≡ Err NoPrefix
TextGives text (Err OddDigits) = bytes_of text ≡ Err OddDigits
TextGives text (Err (BadDigit at)) = bytes_of text ≡ Err (BadDigit at)
TextGives text (Err (Malformed at)) = GivesMalformed text at
TextGives text (Err WantMemory) = ⊥
