-- A field: a value of one of the kinds. A string is its bytes without the final NUL.
use Rattle.std.specs.Prelude.{ℕ, ℤ, ◌+◌, ◌^◌, ◌<◌, Bool, List, length, FitsSigned}
use Rattle.std.specs.Int.{w64}
use Rattle.cdr_core.specs.Kind.{Kind, Octet, UShort, ULong, LongLong, Boolean, Text, Octets}

pub data Field : Type 0 where
  octet : ℕ → Field
  ushort : ℕ → Field
  ulong : ℕ → Field
  longlong : ℤ → Field
  boolean : Bool → Field
  text : List ℕ → Field
  octets : List ℕ → Field

abbrev pub kind_of : Field → Kind
kind_of (octet _) = Octet
kind_of (ushort _) = UShort
kind_of (ulong _) = ULong
kind_of (longlong _) = LongLong
kind_of (boolean _) = Boolean
kind_of (text _) = Text
kind_of (octets _) = Octets

-- the value is one that its kind can carry: a number in its range, a length that its ulong can count
abbrev pub Fits : Field → Type 0
Fits (octet n) = n < 2 ^ 8
Fits (ushort n) = n < 2 ^ 16
Fits (ulong n) = n < 2 ^ 32
Fits (longlong z) = FitsSigned w64 z
Fits (boolean _) = Unit {0}
Fits (text bytes) = length bytes + 1 < 2 ^ 32
Fits (octets bytes) = length bytes < 2 ^ 32
