-- The texts of a list, put one behind the other.
use Rattle.std.proofs.Common.{◌≡◌, ℕ, ◌+◌, ◌<◌, List, ◌++◌, length, drop, get_or, sym, ap, ◌∙◌, append_assoc}
use Rattle.std.proofs.lemmas.List.{drop_more}
use Rattle.poad_audit.specs.Story.{lines_by}

-- once the text of the one there is put, those behind it are left
pub line_here : {A : Type 0} (text : A → List ℕ) (all : List A) (i : ℕ) (d : A) → i < length all → (bytes line new whole : List ℕ) → line ≡ text (get_or all i d)
    → new ≡ bytes ++ line → bytes ++ lines_by text (drop i all) ≡ whole → new ++ lines_by text (drop (i + 1) all) ≡ whole
line_here text all i d below bytes line new whole spelled put so_far =
    ap (λ b. b ++ lines_by text (drop (i + 1) all)) (put ∙ ap (λ l. bytes ++ l) spelled)
    ∙ append_assoc bytes (text (get_or all i d)) (lines_by text (drop (i + 1) all))
    ∙ ap (λ t. bytes ++ t) (sym (ap (lines_by text) (drop_more all i d below)))
    ∙ so_far
