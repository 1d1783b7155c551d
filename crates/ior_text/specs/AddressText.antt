-- The one text that is written of an address.
use Rattle.std.specs.Prelude.{ℕ, ◌&&◌, nat_le, Bool, List, ◌∷◌, ◌++◌, codes, decimal}
use Rattle.ior_text.specs.declared.address.Address.{Address}
use Rattle.ior_text.specs.Endpoint.{is_host, is_port}

-- GIOP 1.0 to 1.2, a host of the grammar and a port
abbrev pub is_address : Address → Bool
is_address address = nat_le address.minor 2 && is_host address.endpoint.host && is_port address.endpoint.port

-- `iiop:1.`, the minor version, `@`, the host, `:` and the port
abbrev pub address_text : Address → List ℕ
address_text address =
    codes "iiop:1." ++ decimal address.minor ++ 64 ∷ (address.endpoint.host ++ 58 ∷ decimal address.endpoint.port)
