-- Numbers in digits: their texts read back, and what stands in them.
use Rattle.std.proofs.Common.{◌≡◌, ℕ, ◌+◌, ◌*◌, ◌-◌, ◌^◌, ◌<◌, ◌≤◌, true, List, [], ◌∷◌, Some, None, refl, arith, rules, drop, get_or, length, suc, ap, drop-cons}
use Rattle.std.proofs.lemmas.Bool.{lt-ltb, le-ltb}
use Rattle.std.proofs.lemmas.Str.Parse.{IsNumeralModel, numerals_by_fold}
use Rattle.std.proofs.lemmas.Fmt.{digits_value-decimal}
use Rattle.std.proofs.lemmas.Slice.Eq.{bytes_eq-Decides}
use Rattle.std.specs.Fmt.{decimal}
use Rattle.std.specs.Str.{all_ascii_digits}
use Rattle.text_words.specs.Number.{read_on, number_of}

-- a number is no less with more digits
pub grown : (n : ℕ) (cs : List ℕ) → n ≤ read_on n cs
grown n [] = omega arith
grown n (c ∷ cs) = let more : n * 10 + (c - 48) ≤ read_on (n * 10 + (c - 48)) cs = grown (n * 10 + (c - 48)) cs in omega arith

-- digits whose value reaches the limit write no number below it
pub too_large : (limit : ℕ) (w : List ℕ) → limit ≤ read_on 0 w → number_of limit w ≡ None
too_large limit w h = rw (le-ltb (read_on 0 w) limit h) refl

own : IsNumeralModel (λ ds. all_ascii_digits ds ≡ true) (read_on 0)
own = numerals_by_fold _ (search rules) read_on (search rules)

pub number_back : (limit n : ℕ) → n < limit → limit ≤ 2 ^ 64 → number_of limit (decimal n) ≡ Some n
number_back limit n h small =
    let value : read_on 0 (decimal n) ≡ n = digits_value-decimal own n (omega arith) in
    rw (value, lt-ltb n limit h, (bytes_eq-Decides (decimal n) (decimal n)).1 refl) refl

-- each width of number in a text
pub back8 : (n : ℕ) → n < 256 → number_of 256 (decimal n) ≡ Some n
back8 n h = number_back 256 n h (omega arith)

pub back32 : (n : ℕ) → n < 2 ^ 32 → number_of (2 ^ 32) (decimal n) ≡ Some n
back32 n h = number_back (2 ^ 32) n h (omega arith)

pub back64 : (n : ℕ) → n < 2 ^ 64 → number_of (2 ^ 64) (decimal n) ≡ Some n
back64 n h = number_back (2 ^ 64) n h (omega arith)

-- digits that overflow 64 bits write no number
pub overflowed : (most n i : ℕ) (w : List ℕ) → most < 2 ^ 64 → i < length w → (n * 10 + (get_or w i 0 - 48) < 2 ^ 64 → ⊥)
    → read_on n (drop i w) ≡ read_on 0 w → number_of (most + 1) w ≡ None
overflowed most n i w small within large so_far =
    let at : read_on n (drop i w) ≡ read_on (n * 10 + (get_or w i 0 - 48)) (drop (suc i) w) = ap (read_on n) (drop-cons w i 0 within) in
    let more : n * 10 + (get_or w i 0 - 48) ≤ read_on (n * 10 + (get_or w i 0 - 48)) (drop (suc i) w) = grown (n * 10 + (get_or w i 0 - 48)) (drop (suc i) w) in
    too_large (most + 1) w (omega (arith, large))
