-- Lists that are filtered, mapped and searched.
use Rattle.std.proofs.Common.{◌≡◌, Bool, true, false, ◌&&◌, List, [], ◌∷◌, map, filter, find, Some, option_map, cond, refl, ap, ap₂, ◌∙◌, inl, inr}
use Rattle.history_standing.specs.Trees.{In}

-- tests that agree on the elements keep the same
pub filter_agrees : {A : Type 0} (p q : A → Bool) (xs : List A) → ((x : A) → In x xs → p x ≡ q x) → filter p xs ≡ filter q xs
filter_agrees p q [] same = refl
filter_agrees p q (x ∷ xs) same =
    ap₂ (λ b ys. cond b (x ∷ ys) ys) (same x (inl refl)) (filter_agrees p q xs (λ y there. same y (inr there)))

-- keeping by a test on what is read of the elements
pub filter_mapped : {A B : Type 0} (g : A → B) (p : A → Bool) (q : B → Bool) (xs : List A) → ((x : A) → In x xs → p x ≡ q (g x))
    → map g (filter p xs) ≡ filter q (map g xs)
filter_mapped g p q [] same = refl
filter_mapped {A} {B} g p q (x ∷ xs) same =
    let rest : map g (filter p xs) ≡ filter q (map g xs) = filter_mapped g p q xs (λ y there. same y (inr there)) in
    ap (λ b. map g (cond b (x ∷ filter p xs) (filter p xs))) (same x (inl refl))
    ∙ elim (q (g x)) as (λ b. map g (cond b (x ∷ filter p xs) (filter p xs)) ≡ cond b (g x ∷ filter q (map g xs)) (filter q (map g xs)))
    [ true ↦ ap (λ ys. g x ∷ ys) rest | false ↦ rest ]

-- finding among those that were kept
pub find_kept : {A : Type 0} (p q : A → Bool) (xs : List A) → find q (filter p xs) ≡ find (λ x. p x && q x) xs
find_kept p q [] = refl
find_kept {A} p q (x ∷ xs) =
    elim (p x) as (λ b. find q (cond b (x ∷ filter p xs) (filter p xs)) ≡ cond (b && q x) (Some x) (find (λ y. p y && q y) xs))
    [ true ↦ ap (λ o. cond (q x) (Some x) o) (find_kept p q xs) | false ↦ find_kept p q xs ]

pub find_agrees : {A : Type 0} (p q : A → Bool) (xs : List A) → ((x : A) → In x xs → p x ≡ q x) → find p xs ≡ find q xs
find_agrees p q [] same = refl
find_agrees p q (x ∷ xs) same = ap₂ (λ b o. cond b (Some x) o) (same x (inl refl)) (find_agrees p q xs (λ y there. same y (inr there)))

pub find_mapped : {A B : Type 0} (g : A → B) (p : A → Bool) (q : B → Bool) (xs : List A) → ((x : A) → In x xs → p x ≡ q (g x))
    → option_map g (find p xs) ≡ find q (map g xs)
find_mapped g p q [] same = refl
find_mapped {A} {B} g p q (x ∷ xs) same =
    let rest : option_map g (find p xs) ≡ find q (map g xs) = find_mapped g p q xs (λ y there. same y (inr there)) in
    ap (λ b. option_map g (cond b (Some x) (find p xs))) (same x (inl refl))
    ∙ elim (q (g x)) as (λ b. option_map g (cond b (Some x) (find p xs)) ≡ cond b (Some (g x)) (find q (map g xs)))
    [ true ↦ refl | false ↦ rest ]
