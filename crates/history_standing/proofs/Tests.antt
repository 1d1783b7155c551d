-- Tests of one thing, and of each in a list.
use Rattle.std.specs.Prelude.{◌≡◌, Bool, true, false, not, List, refl}
use Rattle.std.specs.List.{list_any}
use Rattle.std.proofs.Common.{sym, ap, ◌∙◌}
use Rattle.std.proofs.lemmas.Bool.{false_from_ne_true}
use Rattle.history_standing.specs.Trees.{In}
use Rattle.history_standing.proofs.Members.{any_in}

-- each holds where the other does
pub same_test : (x y : Bool) → (x ≡ true → y ≡ true) → (y ≡ true → x ≡ true) → x ≡ y
same_test true y one other = sym (one refl)
same_test false true one other = other refl
same_test false false one other = refl

-- where none passes, one of them doesn't
pub none_by : {A : Type 0} (test : A → Bool) (x : A) (xs : List A) → In x xs → list_any test xs ≡ false → test x ≡ false
none_by test x xs is none = false_from_ne_true (test x) (λ passes. let e : false ≡ true = sym none ∙ any_in test x xs is passes in cc)

pub not_true : (b : Bool) → not b ≡ true → b ≡ false
not_true true e = absurd (let f : false ≡ true = e in cc)
not_true false e = refl

pub not_false : (b : Bool) → b ≡ false → not b ≡ true
not_false b e = ap not e
