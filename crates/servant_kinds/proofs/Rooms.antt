-- How the size of a log bounds its entries.
use Rattle.std.proofs.Common.{◌≡◌, ℕ, ◌+◌, ◌≤◌, List, [], ◌∷◌, length, arith}
use Rattle.std.proofs.lemmas.List.Sums.{sum_by-cons}
use Rattle.servant_kinds.specs.Log.{size_of}

-- a log has no more entries than its size
pub length-le-size_of : (entries : List (List ℕ)) → length entries ≤ size_of entries
length-le-size_of [] = omega arith
length-le-size_of (entry ∷ entries) =
    let step : size_of (entry ∷ entries) ≡ length entry + 1 + size_of entries = sum_by-cons (λ e. length e + 1) entry entries in
    omega (arith, step, length-le-size_of entries)
