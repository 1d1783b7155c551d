-- Numbers in decimal digits: no sign but `-` where one may stand, no leading zero, so each value has one text.
use Rattle.std.specs.Prelude.{ℕ, ℤ, pos, negsuc, ◌+◌, ◌*◌, ◌-◌, ◌^◌, ◌==◌, ◌&&◌, nat_lt, List, [], ◌∷◌, decimal, Option, Some, None, if◌then◌else◌}
use Rattle.std.specs.Str.{bytes_eq}

-- the number that bytes write after the digits of n, each byte a digit by its distance from `0`
abbrev pub read_on : ℕ → List ℕ → ℕ
read_on n [] = n
read_on n (c ∷ cs) = read_on (n * 10 + (c - 48)) cs

-- the number below the limit whose text the word is
abbrev pub number_of : ℕ → List ℕ → Option ℕ
number_of limit w = let n = read_on 0 w in if nat_lt n limit && bytes_eq (decimal n) w then Some n else None

-- the number below zero with this size; `-0` is none
abbrev pub negated : Option ℕ → Option ℤ
negated None = None
negated (Some n) = if n == 0 then None else Some (negsuc (n - 1))

abbrev pub not_negated : Option ℕ → Option ℤ
not_negated None = None
not_negated (Some n) = Some (pos n)

-- the 64-bit number with a sign whose text the word is; 45 is `-`
abbrev pub signed_of : List ℕ → Option ℤ
signed_of [] = None
signed_of (c ∷ cs) = if c == 45 then negated (number_of (2 ^ 63 + 1) cs) else not_negated (number_of (2 ^ 63) (c ∷ cs))

abbrev pub not_zero : Option ℕ → Option ℕ
not_zero None = None
not_zero (Some n) = if n == 0 then None else Some n

-- the port whose text the word is
abbrev pub port_of : List ℕ → Option ℕ
port_of w = not_zero (number_of (2 ^ 16) w)
