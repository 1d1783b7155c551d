-- Digits read one after another.
use Rattle.std.proofs.Common.{◌≡◌, ℕ, ◌+◌, ◌*◌, ◌-◌, ◌<◌, ◌≤◌, List, [], ◌∷◌, arith, drop, get_or, length, suc, ap, drop-cons}
use Rattle.command_words.specs.Numbers.{read_on}

-- a number is no less with more digits
pub grown : (n : ℕ) (cs : List ℕ) → n ≤ read_on n cs
grown n [] = omega arith
grown n (c ∷ cs) = let more : n * 10 + (c - 48) ≤ read_on (n * 10 + (c - 48)) cs = grown (n * 10 + (c - 48)) cs in omega arith

-- where the next digit leads beyond a bound, so do all
pub overflowed : (bound n i : ℕ) (w : List ℕ) → i < length w → (n * 10 + (get_or w i 0 - 48) < bound → ⊥)
    → read_on n (drop i w) ≡ read_on 0 w → read_on 0 w < bound → ⊥
overflowed bound n i w within large so_far small =
    let at : read_on n (drop i w) ≡ read_on (n * 10 + (get_or w i 0 - 48)) (drop (suc i) w) = ap (read_on n) (drop-cons w i 0 within) in
    let more : n * 10 + (get_or w i 0 - 48) ≤ read_on (n * 10 + (get_or w i 0 - 48)) (drop (suc i) w) = grown (n * 10 + (get_or w i 0 - 48)) (drop (suc i) w) in
    large (omega (arith, small))
