-- Ports in digits.
use Rattle.std.proofs.Common.{◌≡◌, ℕ, ◌+◌, ◌*◌, ◌-◌, ◌^◌, ◌<◌, ◌≤◌, true, List, [], ◌∷◌, Some, refl, arith, rules, drop, get_or, length, suc, ap, drop-cons}
use Rattle.std.specs.Fmt.{decimal}
use Rattle.std.specs.List.{list_all}
use Rattle.std.specs.Char.{is_ascii_digit}
use Rattle.std.proofs.lemmas.Bool.{and_parts, ltb-true, le-leb}
use Rattle.std.proofs.lemmas.Str.Parse.{IsNumeralModel, numerals_by_fold}
use Rattle.std.proofs.lemmas.Fmt.{digits_decimal, digits_value-decimal, length-decimal-le}
use Rattle.ior_text.specs.Endpoint.{read_on, is_port, port_of}

-- a number is no less with more digits
grown : (n : ℕ) (cs : List ℕ) → n ≤ read_on n cs
grown n [] = omega arith
grown n (c ∷ cs) =
    let more : n * 10 + (c - 48) ≤ read_on (n * 10 + (c - 48)) cs = grown (n * 10 + (c - 48)) cs in omega arith

-- digits that overflow 16 bits write no port
pub overflowed :
    (n i : ℕ) (word : List ℕ) → i < length word → (n * 10 + (get_or word i 0 - 48) < 2 ^ 16 → ⊥) →
    read_on n (drop i word) ≡ read_on 0 word → read_on 0 word < 2 ^ 16 → ⊥
overflowed n i word within large so_far small =
    let at : read_on n (drop i word) ≡ read_on (n * 10 + (get_or word i 0 - 48)) (drop (suc i) word) =
    ap (read_on n) (drop-cons word i 0 within) in
    let more : n * 10 + (get_or word i 0 - 48) ≤ read_on (n * 10 + (get_or word i 0 - 48)) (drop (suc i) word) =
    grown (n * 10 + (get_or word i 0 - 48)) (drop (suc i) word) in
    large (omega arith)

own : IsNumeralModel (λ ds. list_all is_ascii_digit ds ≡ true) (read_on 0)
own = numerals_by_fold _ (search rules) read_on (search rules)

pub port_below : (n : ℕ) → is_port n ≡ true → n < 2 ^ 16
port_below n port = ltb-true n (2 ^ 16) (and_parts _ _ port).1

-- a port is read back from its digits
pub port_back : (n : ℕ) → is_port n ≡ true → port_of (decimal n) ≡ Some n
port_back n port =
    let small : n < 2 ^ 16 = port_below n port in
    let short : length (decimal n) ≤ 5 = length-decimal-le 5 n (omega arith) (omega arith) (omega arith) in
    rw (le-leb (length (decimal n)) 5 short, digits_decimal own n (omega arith), digits_value-decimal own n (omega arith), port) refl

-- no `@`, `,` or `/` stands among digits
pub digits_of : (n : ℕ) → n < 2 ^ 16 → list_all is_ascii_digit (decimal n) ≡ true
digits_of n small = digits_decimal own n (omega arith)
