-- A host, and `:` and a port or neither (CORBA 3.3 Part 2, 7.6.10.1).
use Rattle.std.specs.Prelude.{ℕ, ◌+◌, ◌*◌, ◌-◌, ◌^◌, ◌==◌, ◌&&◌, ◌||◌, nat_le, nat_lt, Bool, List, [], ◌∷◌, length, Option, Some, None, if◌then◌else◌}
use Rattle.std.specs.List.{list_all}
use Rattle.std.specs.Char.{is_ascii_alphanumeric, is_ascii_digit}
use Rattle.poa_base.specs.declared.Endpoint.{Endpoint}
use Rattle.ior_text.specs.Chain.{◌>>=◌}
use Rattle.ior_text.specs.Cut.{before, behind}

-- a letter, a digit, `.` or `-`
abbrev pub is_host_byte : ℕ → Bool
is_host_byte c = is_ascii_alphanumeric c || c == 46 || c == 45

-- a host has 1 to 255 such bytes
abbrev pub is_host : List ℕ → Bool
is_host word = nat_le 1 (length word) && nat_le (length word) 255 && list_all is_host_byte word

abbrev pub host_of : List ℕ → Option (List ℕ)
host_of word = if is_host word then Some word else None

-- the number that digits write behind those of n
abbrev pub read_on : ℕ → List ℕ → ℕ
read_on n [] = n
read_on n (c ∷ cs) = read_on (n * 10 + (c - 48)) cs

abbrev pub is_port : ℕ → Bool
is_port n = nat_le 1 n && nat_lt n (2 ^ 16)

-- the port, from 1 to 65535, that at most five decimal digits write
abbrev pub port_of : List ℕ → Option ℕ
port_of word =
    if nat_le (length word) 5 && list_all is_ascii_digit word && is_port (read_on 0 word) then Some (read_on 0 word)
    else None

-- the port behind a host, which is 2809 where none is written
abbrev pub port_behind : Option (List ℕ) → Option ℕ
port_behind None = Some 2809
port_behind (Some word) = port_of word

-- a host, and the port behind `:`
abbrev pub endpoint_of : List ℕ → Option Endpoint
endpoint_of text = do
  host ← host_of (before 58 text)
  port ← port_behind (behind 58 text)
  Some (record { host = host; port = port })
