-- A corbaloc text (CORBA 3.3 Part 2, 7.6.10.1): `corbaloc:`, addresses parted by `,`, and `/` and a key string, or nothing,
-- which is the empty key.
use Rattle.std.specs.Prelude.{ℕ, ◌+◌, ◌==◌, nat_eq, List, [], ◌∷◌, ◌++◌, length, drop, codes, Option, Some, None, Result, Ok, Err, if◌then◌else◌}
use Rattle.std.specs.List.{slice_split, starts_with}
use Rattle.ior_text.specs.declared.address.Address.{Address}
use Rattle.ior_text.specs.declared.location.Location.{Location}
use Rattle.ior_text.specs.declared.corbaloc_fault.LocFault.{LocFault}
use Rattle.ior_text.specs.declared.corbaloc_fault.LocFault.TheVariants.{NoScheme, BadAddress}
use Rattle.ior_text.specs.Cut.{before, behind}
use Rattle.ior_text.specs.Gives.{◌>>=◌}
use Rattle.ior_text.specs.Address.{address_of}
use Rattle.ior_text.specs.AddressText.{address_text}
use Rattle.ior_text.specs.KeyString.{key_at, key_text}

abbrev pub scheme : List ℕ
scheme = codes "corbaloc:"

-- the address that was read, or the place of the wrong one
abbrev pub address_or : ℕ → Option Address → Result Address LocFault
address_or at (Some address) = Ok address
address_or at None = Err (BadAddress at)

-- the addresses that texts are, the first of which begins at this place, or the place of the first that is none; a `,`
-- stands between each two
abbrev pub addresses_at : ℕ → List (List ℕ) → Result (List Address) LocFault
addresses_at at [] = Ok []
addresses_at at (text ∷ texts) = do
  address ← address_or at (address_of text)
  addresses ← addresses_at (at + length text + 1) texts
  Ok (address ∷ addresses)

-- the addresses of a list that begins at this place; 44 is `,`
abbrev pub listed_at : ℕ → List ℕ → Result (List Address) LocFault
listed_at at list = addresses_at at (slice_split (λ c. c == 44) list)

-- the key behind the `/` at this place, where one stands there
abbrev pub key_behind : ℕ → Option (List ℕ) → Result (List ℕ) LocFault
key_behind at None = Ok []
key_behind at (Some text) = key_at (at + 1) text

-- the addresses and the key of what stands behind the scheme, whose nine bytes have the places 0 to 8; 47 is `/`
abbrev pub location_behind : List ℕ → Result Location LocFault
location_behind text = do
  addresses ← listed_at 9 (before 47 text)
  key ← key_behind (9 + length (before 47 text)) (behind 47 text)
  Ok (record { addresses = addresses; key = key })

-- the location that a text tells, or its first fault
abbrev pub location_of : List ℕ → Result Location LocFault
location_of text = if starts_with nat_eq text scheme then location_behind (drop 9 text) else Err NoScheme

-- addresses, each behind a `,`
abbrev pub behind_commas : List Address → List ℕ
behind_commas [] = []
behind_commas (address ∷ addresses) = 44 ∷ (address_text address ++ behind_commas addresses)

-- addresses, with a `,` between each two
abbrev pub list_text : List Address → List ℕ
list_text [] = []
list_text (address ∷ addresses) = address_text address ++ behind_commas addresses

-- the one text that is written of a location
abbrev pub location_text : Location → List ℕ
location_text location = scheme ++ list_text location.addresses ++ 47 ∷ key_text location.key
