-- What a search in a list finds.
use Rattle.std.specs.Prelude.{◌≡◌, ℕ, Bool, true, false, cond, ◌&&◌, List, [], ◌∷◌, find, Some, None, refl}
use Rattle.std.proofs.Common.{inl, inr, sym, subst, ap, ap₂, ◌∙◌}
use Rattle.std.proofs.lemmas.Bool.{and_parts}
use Rattle.history_standing.specs.Paths.{same_bytes, same_path}
use Rattle.history_standing.specs.Trees.{In}
use Rattle.history_standing.proofs.Leading.{same_self, bytes_same}

-- what is found is an element that passes
pub find_in : {A : Type 0} (test : A → Bool) (x : A) (xs : List A) → find test xs ≡ Some x → In x xs × (test x ≡ true)
find_in test x [] found = absurd (cc)
find_in {A} test x (y ∷ xs) found =
    elim (test y) as (λ b. test y ≡ b → cond b (Some y) (find test xs) ≡ Some x → In x (y ∷ xs) × (test x ≡ true)) [
      | true ↦ λ passes is. (let same : y ≡ x = cc in (inl (sym same), subst (λ z. test z ≡ true) same passes))
      | false ↦ λ fails is. (let more = find_in test x xs is in (inr more.0, more.1))
    ] refl found

-- where nothing is found no element passes
pub find_none : {A : Type 0} (test : A → Bool) (x : A) (xs : List A) → find test xs ≡ None → In x xs → test x ≡ true → ⊥
find_none test x [] none is passes = is
find_none {A} test x (y ∷ xs) none is passes =
    elim (test y) as (λ b. test y ≡ b → cond b (Some y) (find test xs) ≡ None → ⊥) [
      | true ↦ λ here is'. (let e : Some y ≡ None = is' in cc)
      | false ↦ λ fails is'. elim is [
        | inl same ↦ (let e : true ≡ false = sym passes ∙ (ap test same ∙ fails) in cc)
        | inr more ↦ find_none test x xs is' more passes
      ]
    ] refl none

pub same_path_self : (p : List (List ℕ)) → same_path p p ≡ true
same_path_self [] = refl
same_path_self (x ∷ p) = ap₂ (λ a b. a && b) (same_self x) (same_path_self p)

pub path_same : (p q : List (List ℕ)) → same_path p q ≡ true → p ≡ q
path_same [] [] same = refl
path_same [] (y ∷ q) same = absurd (let e : false ≡ true = same in cc)
path_same (x ∷ p) [] same = absurd (let e : false ≡ true = same in cc)
path_same (x ∷ p) (y ∷ q) same = let parts = and_parts (same_bytes x y) (same_path p q) same in
    ap₂ (λ a b. a ∷ b) (bytes_same x y parts.0) (path_same p q parts.1)
