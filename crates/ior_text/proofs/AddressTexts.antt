-- The text that is written of an address: which bytes it lacks, and what it is read as.
use Rattle.std.proofs.Common.{◌≡◌, ℕ, ◌<◌, ◌≤◌, ◌^◌, ◌==◌, ◌&&◌, Bool, true, false, not, nat_le, List, ◌∷◌, ◌++◌, length, zero, suc, Some, refl, sym, ◌∙◌, ap, arith}
use Rattle.std.specs.Prelude.{codes}
use Rattle.std.specs.Fmt.{digits, decimal}
use Rattle.std.specs.Char.{is_ascii_digit}
use Rattle.std.specs.List.{list_all}
use Rattle.std.proofs.lemmas.Bool.{and_parts, and_from, leb-true, ne_eqb, not_from_false, false≢true}
use Rattle.poa_base.specs.declared.Endpoint.{Endpoint}
use Rattle.ior_text.specs.declared.address.Address.{Address}
use Rattle.ior_text.specs.Endpoint.{is_host_byte, is_host, is_port, endpoint_of}
use Rattle.ior_text.specs.Address.{address_of}
use Rattle.ior_text.specs.AddressText.{is_address, address_text}
use Rattle.ior_text.proofs.Cutting.{lacks, cut_before, cut_behind, lacks-append, lacks_by}
use Rattle.ior_text.proofs.Numbers.{port_below, port_back, digits_of}

-- the parts of an address that can be written
pub record Parts (address : Address) : Type 0 where
  pub minor : address.minor ≤ 2
  pub host : is_host address.endpoint.host ≡ true
  pub filled : 1 ≤ length address.endpoint.host
  pub short : length address.endpoint.host ≤ 255
  pub host_bytes : list_all is_host_byte address.endpoint.host ≡ true
  pub port : is_port address.endpoint.port ≡ true

pub parts_of_address : (address : Address) → is_address address ≡ true → Parts address
parts_of_address address h =
    let host : List ℕ = address.endpoint.host in
    let outer = and_parts (nat_le address.minor 2 && is_host host) (is_port address.endpoint.port) h in
    let inner = and_parts (nat_le address.minor 2) (is_host host) outer.0 in
    let bytes = and_parts (nat_le 1 (length host) && nat_le (length host) 255) (list_all is_host_byte host) inner.1 in
    let bounds = and_parts (nat_le 1 (length host)) (nat_le (length host) 255) bytes.0 in
    record {
      minor = leb-true address.minor 2 inner.0;
      host = inner.1;
      filled = leb-true 1 (length host) bounds.0;
      short = leb-true (length host) 255 bounds.1;
      host_bytes = bytes.1;
      port = outer.1;
    }

-- a byte that passes a test which another fails isn't that one
other_byte : (test : ℕ → Bool) (s c : ℕ) → test s ≡ false → test c ≡ true → not (c == s) ≡ true
other_byte test s c fails passes =
    not_from_false (c == s) (ne_eqb c s (λ same. false≢true (sym fails ∙ sym (ap test same) ∙ passes)))

host_lacks : (s : ℕ) (host : List ℕ) → is_host_byte s ≡ false → list_all is_host_byte host ≡ true → lacks s host ≡ true
host_lacks s host fails bytes = lacks_by s is_host_byte (λ c passes. other_byte is_host_byte s c fails passes) host bytes

decimal_lacks : (s n : ℕ) → is_ascii_digit s ≡ false → n < 2 ^ 16 → lacks s (decimal n) ≡ true
decimal_lacks s n fails small =
    lacks_by s is_ascii_digit (λ c passes. other_byte is_ascii_digit s c fails passes) (decimal n) (digits_of n small)

-- neither a `,` nor a `/` stands in the text
pub address_lacks :
    (s : ℕ) (address : Address) → is_address address ≡ true → is_host_byte s ≡ false → is_ascii_digit s ≡ false →
    lacks s (codes "iiop:1.") ≡ true → not (64 == s) ≡ true → not (58 == s) ≡ true → lacks s (address_text address) ≡ true
address_lacks s address h no_host no_digit front at colon =
    let parts = parts_of_address address h in
    let host : List ℕ = address.endpoint.host in
    let minor : address.minor < 2 ^ 16 = omega (arith, parts.minor) in
    let port : lacks s (58 ∷ decimal address.endpoint.port) ≡ true =
    and_from _ _ colon (decimal_lacks s address.endpoint.port no_digit (port_below address.endpoint.port parts.port)) in
    let endpoint : lacks s (64 ∷ (host ++ 58 ∷ decimal address.endpoint.port)) ≡ true =
    and_from _ _ at (lacks-append s host (58 ∷ decimal address.endpoint.port) (host_lacks s host no_host parts.host_bytes) port) in
    lacks-append s (codes "iiop:1.") _ front
    (lacks-append s (decimal address.minor) _ (decimal_lacks s address.minor no_digit minor) endpoint)

endpoint_back : (endpoint : Endpoint) → is_host endpoint.host ≡ true → list_all is_host_byte endpoint.host ≡ true
    → is_port endpoint.port ≡ true → endpoint_of (endpoint.host ++ 58 ∷ decimal endpoint.port) ≡ Some endpoint
endpoint_back endpoint host bytes port =
    let clear = host_lacks 58 endpoint.host refl bytes in
    rw (
      cut_before 58 endpoint.host (decimal endpoint.port) clear,
      cut_behind 58 endpoint.host (decimal endpoint.port) clear,
      host,
      port_back endpoint.port port,
    ) refl

-- behind the version stands the endpoint
versioned_back :
    (minor : ℕ) (text : List ℕ) (endpoint : Endpoint) → minor ≤ 2 → endpoint_of text ≡ Some endpoint →
    address_of (codes "iiop:1." ++ decimal minor ++ 64 ∷ text) ≡ Some (record { minor = minor; endpoint = endpoint })
unfolding digits
versioned_back zero text endpoint small is = rw is refl
versioned_back (suc zero) text endpoint small is = rw is refl
versioned_back (suc (suc zero)) text endpoint small is = rw is refl
versioned_back (suc (suc (suc n))) text endpoint small is = absurd (omega arith)

pub address_back : (address : Address) → is_address address ≡ true → address_of (address_text address) ≡ Some address
address_back address h =
    let parts = parts_of_address address h in
    versioned_back address.minor (address.endpoint.host ++ 58 ∷ decimal address.endpoint.port) address.endpoint parts.minor
    (endpoint_back address.endpoint parts.host parts.host_bytes parts.port)
