-- Changing a list in place, one element at a time.
use Rattle.std.specs.Prelude.{◌≡◌, ℕ, ◌+◌, ◌<◌, List, ◌++◌, map, take, drop, length, slice_set, slice_index_or}
use Rattle.std.proofs.Common.{ap, ◌∙◌, arith, get_or}
use Rattle.std.proofs.lemmas.Grind.{common_steps}
use Rattle.std.proofs.lemmas.List.Edits.{map_over_more}

-- what was changed up to an element and then at it was changed up to the next one
pub mapped_one : {A : Type 0} (f : A → A) (i : ℕ) (xs ys : List A) (d y : A) → i < length xs → ys ≡ map f (take i xs) ++ drop i xs
    → y ≡ f (slice_index_or ys i d)
    → slice_set ys i y ≡ map f (take (i + 1) xs) ++ drop (i + 1) xs
mapped_one f i xs ys d y lt whole new =
    let here : slice_index_or ys i d ≡ get_or ys i (slice_index_or ys i d) = grind (arith, common_steps) in
    ap (slice_set ys i) new ∙ map_over_more f xs ys i (slice_index_or ys i d) lt whole here
