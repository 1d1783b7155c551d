-- Numbers among words, with or without zeros in front.
use Rattle.std.specs.Prelude.{ℕ, ◌+◌, ◌*◌, ◌-◌, ◌^◌, ◌&&◌, nat_lt, nat_le, if◌then◌else◌, List, [], ◌∷◌, length, Option, Some, None}
use Rattle.std.specs.Str.{all_ascii_digits}

-- the number that digits write behind those of n
abbrev pub read_on : ℕ → List ℕ → ℕ
read_on n [] = n
read_on n (c ∷ cs) = read_on (n * 10 + (c - 48)) cs

-- the number of one to ten digits within these bounds
abbrev pub number_in : ℕ → ℕ → List ℕ → Option ℕ
number_in least most w =
    if nat_lt 0 (length w) && nat_le (length w) 10 && all_ascii_digits w && nat_le least (read_on 0 w) && nat_le
    (read_on 0 w) most then Some (read_on 0 w) else None

-- the number below 2^64 of one to twenty digits
abbrev pub long_number : List ℕ → Option ℕ
long_number w =
    if nat_lt 0 (length w) && nat_le (length w) 20 && all_ascii_digits w && nat_lt (read_on 0 w) (2 ^ 64) then Some (read_on 0 w) else None
