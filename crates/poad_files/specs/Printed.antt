-- How octets that a stranger chose are printed.
use Rattle.std.specs.Prelude.{ℕ, ◌&&◌, nat_lt, nat_le, Bool, List, ◌++◌, length, codes, if◌then◌else◌}
use Rattle.std.specs.List.{list_all}
use Rattle.hex.specs.Hex.{encode_lower}

-- a byte that shows and isn't a space
abbrev pub is_visible : ℕ → Bool
is_visible byte = nat_le 0x21 byte && nat_le byte 0x7e

-- at least one byte, and each of them shows
abbrev pub is_plain : List ℕ → Bool
is_plain bytes = nat_lt 0 (length bytes) && list_all is_visible bytes

-- bytes in hexadecimal
abbrev pub hexed : List ℕ → List ℕ
hexed bytes = codes "h:" ++ encode_lower bytes

-- bytes as they are where each of them shows, and else in hexadecimal
abbrev pub printed : List ℕ → List ℕ
printed bytes = if is_plain bytes then bytes else hexed bytes
