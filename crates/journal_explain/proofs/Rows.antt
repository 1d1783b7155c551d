-- What is found of a setting after a row of its was put in the place of the old one, or behind all.
use Rattle.std.proofs.Common.{◌≡◌, ℕ, zero, suc, ◌<◌, ◌≤◌, Bool, true, false, cond, List, [], ◌∷◌, ◌++◌, length, set, get_or, refl, sym, ap, ◌∙◌, arith}
use Rattle.std.specs.Prelude.{find, position, Option, Some, None}
use Rattle.std.specs.Option.{option_or}
use Rattle.std.proofs.lemmas.Bool.{eqb-true, false_from_ne_true}
use Rattle.std.proofs.lemmas.Grind.{common_steps}
use Rattle.std.specs.List.{position_or_len}
use Rattle.std.proofs.lemmas.List.Folds.{find_at, find-append}
use Rattle.std.proofs.lemmas.Option.{slice_get_past}
use Rattle.std.proofs.lemmas.List.Quantifiers.{position-Some}
use Rattle.history_standing.proofs.Finding.{path_same}
use Rattle.journal_explain.specs.declared.origin.Origin.{Origin}
use Rattle.journal_explain.specs.declared.setting.Setting.{Setting}
use Rattle.journal_explain.specs.declared.setting.Setting.TheVariants.{Manager, DefaultServant, Endpoint}
use Rattle.journal_explain.specs.Origins.{same_setting}
use Rattle.journal_explain.specs.Watching.{IsPut, origin_in}

-- what is the same is equal
setting_same : (s t : Setting) → same_setting s t ≡ true → s ≡ t
setting_same (Manager k) (Manager m) is = ap Manager (eqb-true k m is)
setting_same (DefaultServant p) (DefaultServant q) is = ap DefaultServant (path_same p q is)
setting_same (Endpoint p) (Endpoint q) is = ap Endpoint (path_same p q is)
setting_same (Manager k) (DefaultServant q) is = absurd (let e : false ≡ true = is in cc)
setting_same (Manager k) (Endpoint q) is = absurd (let e : false ≡ true = is in cc)
setting_same (DefaultServant p) (Manager m) is = absurd (let e : false ≡ true = is in cc)
setting_same (DefaultServant p) (Endpoint q) is = absurd (let e : false ≡ true = is in cc)
setting_same (Endpoint p) (Manager m) is = absurd (let e : false ≡ true = is in cc)
setting_same (Endpoint p) (DefaultServant q) is = absurd (let e : false ≡ true = is in cc)

-- the test for a setting
abbrev of : Setting → Origin → Bool
of s o = same_setting o.setting s

-- another setting than this one isn't found where this one is
apart : (q r s : Setting) → same_setting q r ≡ false → same_setting q s ≡ true → same_setting r s ≡ false
apart q r s other here =
    false_from_ne_true (same_setting r s) (λ there.
    let e : true ≡ false = sym (ap (same_setting q) (setting_same r s there) ∙ here) ∙ other in cc)

first_stays : (a b : Bool) (x y z : Option Origin) → (a ≡ true → b ≡ false) → cond a x (cond b y z) ≡ cond b y (cond a x z)
first_stays true true x y z excludes = absurd (let e : true ≡ false = excludes refl in cc)
first_stays true false x y z excludes = refl
first_stays false b x y z excludes = refl

is_hidden : (a b : Bool) (x y z : Option Origin) → a ≡ b → cond b y z ≡ cond b y (cond a x z)
is_hidden a true x y z same = refl
is_hidden true false x y z same = absurd (let e : true ≡ false = same in cc)
is_hidden false false x y z same = refl

put_at : (row : Origin) (rows : List Origin) (k : ℕ) → k < length rows → of row.setting (get_or rows k row) ≡ true
    → ((j : ℕ) → j < k → of row.setting (get_or rows j row) ≡ false) → (s : Setting)
    → origin_in (set rows k row) s ≡ cond (same_setting row.setting s) (Some row) (origin_in rows s)
put_at row [] k below here first s = absurd (omega arith)
put_at row (x ∷ rows) zero below here first s =
    is_hidden (same_setting x.setting s) (same_setting row.setting s) (Some x) (Some row) (origin_in rows s)
    (ap (λ t. same_setting t s) (setting_same x.setting row.setting here))
put_at row (x ∷ rows) (suc k) below here first s =
    ap (λ o. cond (same_setting x.setting s) (Some x) o) (put_at row rows k (omega arith) here (λ j less. first (suc j) (omega arith)) s)
    ∙ first_stays (same_setting x.setting s) (same_setting row.setting s) (Some x) (Some row) (origin_in rows s)
    (apart x.setting row.setting s (first zero (omega arith)))

pub found_put : (row : Origin) (rows : List Origin) (k : ℕ) → position (λ o. same_setting o.setting row.setting) rows ≡ Some k
    → IsPut row rows (set rows k row)
found_put row rows k place s =
    let its = position-Some (of row.setting) rows k row place in put_at row rows k its.0 its.1 its.2 s

not_found : (test : Origin → Bool) (rows : List Origin) → position test rows ≡ None → find test rows ≡ None
not_found test rows none =
    let past : length rows ≤ position_or_len test rows = grind (arith, common_steps) in
    find_at test rows ∙ slice_get_past rows (position_or_len test rows) past

or_found : (b : Bool) (o : Option Origin) (row : Origin) → (b ≡ true → o ≡ None) → option_or o (cond b (Some row) None) ≡ cond b (Some row) o
or_found true o row none = ap (λ x. option_or x (Some row)) (none refl)
or_found false None row none = refl
or_found false (Some x) row none = refl

pub found_pushed : (row : Origin) (rows : List Origin) → position (λ o. same_setting o.setting row.setting) rows ≡ None
    → IsPut row rows (rows ++ row ∷ [])
found_pushed row rows none s =
    find-append (of s) rows (row ∷ [])
    ∙ or_found (same_setting row.setting s) (origin_in rows s) row
    (λ here. ap (origin_in rows) (sym (setting_same row.setting s here)) ∙ not_found (of row.setting) rows none)
