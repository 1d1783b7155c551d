-- Names of adapters, managers, servants and connections, and host names.
use Rattle.std.specs.Prelude.{ℕ, ◌==◌, ◌&&◌, ◌||◌, nat_le, Bool, List, length, Option, Some, None, if◌then◌else◌}
use Rattle.std.specs.List.{list_all}

-- a letter or a digit
abbrev pub is_alphanumeric : ℕ → Bool
is_alphanumeric c = (nat_le 48 c && nat_le c 57) || (nat_le 65 c && nat_le c 90) || (nat_le 97 c && nat_le c 122)

-- a letter, a digit, `_`, `-` or `.`
abbrev pub is_name_byte : ℕ → Bool
is_name_byte c = is_alphanumeric c || c == 95 || c == 45 || c == 46

-- a letter, a digit, `.` or `-`
abbrev pub is_host_byte : ℕ → Bool
is_host_byte c = is_alphanumeric c || c == 46 || c == 45

-- a name has 1 to 64 such bytes
abbrev pub is_name : List ℕ → Bool
is_name w = nat_le 1 (length w) && nat_le (length w) 64 && list_all is_name_byte w

-- a host has 1 to 255 such bytes
abbrev pub is_host : List ℕ → Bool
is_host w = nat_le 1 (length w) && nat_le (length w) 255 && list_all is_host_byte w

-- the name that a word is
abbrev pub name_of : List ℕ → Option (List ℕ)
name_of w = if is_name w then Some w else None

-- the host that a word is
abbrev pub host_of : List ℕ → Option (List ℕ)
host_of w = if is_host w then Some w else None
