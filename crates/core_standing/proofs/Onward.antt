-- A history that goes on by one entry.
use Rattle.std.proofs.Common.{◌≡◌, ℕ, ◌+◌, ◌<◌, List, [], ◌∷◌, length, take, reverse, get_or, sym, ◌∙◌, ap}
use Rattle.std.proofs.lemmas.List.{take_more, reverse-append}

pub reversed_more : {A : Type 0} (h : List A) (i : ℕ) (e : A) → i < length h → e ≡ get_or h i e → reverse (take (i + 1) h) ≡ e ∷ reverse (take i h)
reversed_more h i e below is =
    ap reverse (take_more h i e below) ∙ reverse-append (take i h) (get_or h i e ∷ []) ∙ ap (λ x. x ∷ reverse (take i h)) (sym is)
