-- What is found of a path after a row of it was put in the place of the old one, or behind all.
use Rattle.std.proofs.Common.{◌≡◌, ℕ, zero, suc, ◌<◌, ◌≤◌, Bool, true, false, cond, List, [], ◌∷◌, ◌++◌, length, set, get_or, refl, sym, subst, ap, ◌∙◌, arith}
use Rattle.std.specs.Prelude.{find, position, Option, Some, None}
use Rattle.std.specs.Option.{option_or}
use Rattle.std.proofs.lemmas.Bool.{false_from_ne_true}
use Rattle.std.proofs.lemmas.Grind.{common_steps}
use Rattle.std.specs.List.{position_or_len}
use Rattle.std.proofs.lemmas.List.Folds.{find_at, find-append}
use Rattle.std.proofs.lemmas.Option.{slice_get_past}
use Rattle.std.proofs.lemmas.List.Quantifiers.{position-Some}
use Rattle.history_standing.specs.Paths.{same_path}
use Rattle.history_standing.proofs.Finding.{path_same, same_path_self}

-- the test for a path, of the rows' own paths
abbrev at : {A : Type 0} → (A → List (List ℕ)) → List (List ℕ) → A → Bool
at path p r = same_path (path r) p

-- another path than this one isn't found where this one is
apart : (q r p : List (List ℕ)) → same_path q r ≡ false → same_path q p ≡ true → same_path r p ≡ false
apart q r p other here =
    false_from_ne_true (same_path r p) (λ there.
    let e : true ≡ false = sym (same_path_self q) ∙ (ap (λ z. same_path q z) (path_same q p here ∙ sym (path_same r p there)) ∙ other) in cc)

first_stays : {A : Type 0} (a b : Bool) (x y z : A) → (a ≡ true → b ≡ false) → cond a x (cond b y z) ≡ cond b y (cond a x z)
first_stays true true x y z excludes = absurd (let e : true ≡ false = excludes refl in cc)
first_stays true false x y z excludes = refl
first_stays false b x y z excludes = refl

is_hidden : {A : Type 0} (a b : Bool) (x y z : A) → a ≡ b → cond b y z ≡ cond b y (cond a x z)
is_hidden a true x y z same = refl
is_hidden true false x y z same = absurd (let e : true ≡ false = same in cc)
is_hidden false false x y z same = refl

put_at : {A : Type 0} (path : A → List (List ℕ)) (row : A) (rows : List A) (k : ℕ) → k < length rows → same_path (path (get_or rows k row)) (path row) ≡ true
    → ((j : ℕ) → j < k → same_path (path (get_or rows j row)) (path row) ≡ false) → (p : List (List ℕ))
    → find (at path p) (set rows k row) ≡ cond (same_path (path row) p) (Some row) (find (at path p) rows)
put_at path row [] k below here first p = absurd (omega arith)
put_at path row (x ∷ rows) zero below here first p =
    is_hidden (same_path (path x) p) (same_path (path row) p) (Some x) (Some row) (find (at path p) rows)
    (ap (λ q. same_path q p) (path_same (path x) (path row) here))
put_at path row (x ∷ rows) (suc k) below here first p =
    ap (λ o. cond (same_path (path x) p) (Some x) o) (put_at path row rows k (omega arith) here (λ j less. first (suc j) (omega arith)) p)
    ∙ first_stays (same_path (path x) p) (same_path (path row) p) (Some x) (Some row) (find (at path p) rows)
    (apart (path x) (path row) p (first zero (omega arith)))

pub found_put : {A : Type 0} (path : A → List (List ℕ)) (row : A) (rows : List A) (k : ℕ) → position (at path (path row)) rows ≡ Some k → (p : List (List ℕ))
    → find (at path p) (set rows k row) ≡ cond (same_path (path row) p) (Some row) (find (at path p) rows)
found_put path row rows k place p =
    let its = position-Some (at path (path row)) rows k row place in put_at path row rows k its.0 its.1 its.2 p

not_found : {A : Type 0} (test : A → Bool) (rows : List A) → position test rows ≡ None → find test rows ≡ None
not_found test rows none =
    let past : length rows ≤ position_or_len test rows = grind (arith, common_steps) in
    find_at test rows ∙ slice_get_past rows (position_or_len test rows) past

or_found : {A : Type 0} (b : Bool) (o : Option A) (row : A) → (b ≡ true → o ≡ None) → option_or o (cond b (Some row) None) ≡ cond b (Some row) o
or_found true o row none = ap (λ x. option_or x (Some row)) (none refl)
or_found false None row none = refl
or_found false (Some x) row none = refl

pub found_pushed : {A : Type 0} (path : A → List (List ℕ)) (row : A) (rows : List A) → position (at path (path row)) rows ≡ None → (p : List (List ℕ))
    → find (at path p) (rows ++ row ∷ []) ≡ cond (same_path (path row) p) (Some row) (find (at path p) rows)
found_pushed path row rows none p =
    find-append (at path p) rows (row ∷ [])
    ∙ or_found (same_path (path row) p) (find (at path p) rows) row
    (λ here. subst (λ q. find (at path q) rows ≡ None) (path_same (path row) p here) (not_found (at path (path row)) rows none))
