-- Elements of lists that were appended, mapped and filtered.
use Rattle.std.specs.Prelude.{◌≡◌, Bool, true, false, cond, ◌||◌, List, [], ◌∷◌, ◌++◌, map, filter, ◌⊎◌, refl}
use Rattle.std.specs.List.{list_any}
use Rattle.std.proofs.Common.{inl, inr, sym, ap, ◌∙◌}
use Rattle.std.proofs.lemmas.Bool.{or_cases, true≢false, false_from_ne_true}
use Rattle.history_standing.specs.Trees.{In}

-- an element of the front is one of the whole, and so is the one behind it
pub in_front : {A : Type 0} (x y : A) (xs : List A) → In x xs → In x (xs ++ y ∷ [])
in_front x y [] is = absurd is
in_front x y (z ∷ xs) (inl same) = inl same
in_front x y (z ∷ xs) (inr more) = inr (in_front x y xs more)

pub in_back : {A : Type 0} (y : A) (xs : List A) → In y (xs ++ y ∷ [])
in_back y [] = inl refl
in_back y (z ∷ xs) = inr (in_back y xs)

-- an element of the whole is one of the front, or the one behind it
pub in_either : {A : Type 0} (x y : A) (xs : List A) → In x (xs ++ y ∷ []) → In x xs ⊎ (x ≡ y)
in_either x y [] (inl same) = inr same
in_either x y [] (inr none) = absurd none
in_either x y (z ∷ xs) (inl same) = inl (inl same)
in_either x y (z ∷ xs) (inr more) = elim (in_either x y xs more) [ inl is ↦ inl (inr is) | inr same ↦ inr same ]

-- an element of a mapped list is the image of one
pub in_image : {A B : Type 0} (f : A → B) (y : B) (xs : List A) → In y (map f xs) → (x : A) × In x xs × (y ≡ f x)
in_image f y [] is = absurd is
in_image f y (x ∷ xs) (inl same) = (x, inl refl, same)
in_image f y (x ∷ xs) (inr more) = (let found = in_image f y xs more in (found.0, inr found.1, found.2))

pub image_in : {A B : Type 0} (f : A → B) (x : A) (xs : List A) → In x xs → In (f x) (map f xs)
image_in f x [] is = absurd is
image_in f x (y ∷ xs) (inl same) = inl (ap f same)
image_in f x (y ∷ xs) (inr more) = inr (image_in f x xs more)

-- an element of a filtered list is one that passes
pub in_kept : {A : Type 0} (test : A → Bool) (x : A) (xs : List A) → In x (filter test xs) → In x xs × (test x ≡ true)
in_kept test x [] is = absurd is
in_kept {A} test x (y ∷ xs) is =
    elim (test y) as (λ b. test y ≡ b → In x (cond b (y ∷ filter test xs) (filter test xs)) → In x (y ∷ xs) × (test x ≡ true)) [
      | true ↦ λ passes is. elim is [ inl same ↦ (inl same, ap test same ∙ passes) | inr more ↦ (let found = in_kept test x xs more in (inr found.0, found.1)) ]
      | false ↦ λ fails is. (let found = in_kept test x xs is in (inr found.0, found.1))
    ] refl is

pub kept_in : {A : Type 0} (test : A → Bool) (x : A) (xs : List A) → In x xs → test x ≡ true → In x (filter test xs)
kept_in test x [] is passes = absurd is
kept_in test x (y ∷ xs) (inl same) passes =
    elim (test y) as (λ b. test y ≡ b → In x (cond b (y ∷ filter test xs) (filter test xs)))
    [ true ↦ λ is. inl same | false ↦ λ is. absurd (let e : true ≡ false = sym passes ∙ (ap test same ∙ is) in cc) ] refl
kept_in test x (y ∷ xs) (inr more) passes =
    elim (test y) as (λ b. In x (cond b (y ∷ filter test xs) (filter test xs)))
    [ true ↦ inr (kept_in test x xs more passes) | false ↦ kept_in test x xs more passes ]

-- one element that passes is enough
pub any_in : {A : Type 0} (test : A → Bool) (x : A) (xs : List A) → In x xs → test x ≡ true → list_any test xs ≡ true
any_in test x [] is passes = absurd is
any_in test x (y ∷ xs) (inl same) passes = ap (λ b. b || list_any test xs) (ap test (sym same) ∙ passes)
any_in test x (y ∷ xs) (inr more) passes = either_true (test y) (list_any test xs) (any_in test x xs more passes)
  where
    either_true : (a b : Bool) → b ≡ true → (a || b) ≡ true
    either_true true b is = refl
    either_true false b is = is

-- some element passes
pub some_in : {A : Type 0} (test : A → Bool) (xs : List A) → list_any test xs ≡ true → (x : A) × In x xs × (test x ≡ true)
some_in test [] some_ = absurd (let e : false ≡ true = some_ in cc)
some_in test (x ∷ xs) some_ =
    elim (or_cases (test x) (list_any test xs) some_)
    [ inl here ↦ (x, inl refl, here) | inr more ↦ (let found = some_in test xs more in (found.0, inr found.1, found.2)) ]

-- where each element that passes one test passes another, and none passes that
pub none_in : {A : Type 0} (test other : A → Bool) (xs : List A) → ((x : A) → In x xs → other x ≡ true → test x ≡ true) → list_any test xs ≡ false
    → list_any other xs ≡ false
none_in test other xs fewer none =
    false_from_ne_true (list_any other xs)
    (λ some_. let found = some_in other xs some_ in true≢false (sym (any_in test found.0 xs found.1 (fewer found.0 found.1 found.2)) ∙ none))
