-- An IIOP address (CORBA 3.3 Part 2, 7.6.10.1): `iiop` or nothing, `:`, a version and `@` or neither, and an endpoint.
use Rattle.std.specs.Prelude.{ℕ, ◌||◌, Bool, List, [], codes, Option, Some, None, if◌then◌else◌}
use Rattle.std.specs.Str.{bytes_eq}
use Rattle.ior_text.specs.declared.address.Address.{Address}
use Rattle.ior_text.specs.Chain.{◌>>=◌}
use Rattle.ior_text.specs.Cut.{before, behind}
use Rattle.ior_text.specs.Endpoint.{endpoint_of}

-- the minor version of GIOP 1.0, 1.1 or 1.2
abbrev pub minor_of : List ℕ → Option ℕ
minor_of word =
    if bytes_eq word (codes "1.0") then Some 0
    else if bytes_eq word (codes "1.1") then Some 1
    else if bytes_eq word (codes "1.2") then Some 2
    else None

-- a version before `@`, or 1.0, and an endpoint
abbrev pub versioned : List ℕ → Option (List ℕ) → Option Address
versioned text None = do
  endpoint ← endpoint_of text
  Some (record { minor = 0; endpoint = endpoint })
versioned version (Some text) = do
  minor ← minor_of version
  endpoint ← endpoint_of text
  Some (record { minor = minor; endpoint = endpoint })

-- IIOP is the protocol where none is named
abbrev pub is_protocol : List ℕ → Bool
is_protocol word = bytes_eq word [] || bytes_eq word (codes "iiop")

-- what stands behind the protocol and its `:`
abbrev pub behind_protocol : List ℕ → Option (List ℕ)
behind_protocol text = if is_protocol (before 58 text) then behind 58 text else None

-- the address that a text is
abbrev pub address_of : List ℕ → Option Address
address_of text = do
  rest ← behind_protocol text
  versioned (before 64 rest) (behind 64 rest)
