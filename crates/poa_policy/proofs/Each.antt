-- Entries that keep a rule one after another.
use Rattle.std.proofs.Common.{◌≡◌, ℕ, suc, zero, List, [], ◌∷◌, ◌++◌, take, Some, sym, subst, append-nil}
use Rattle.std.proofs.Math.Seq.{append_snoc}
use Rattle.std.proofs.lemmas.Option.{none-some, same_Some}
use Rattle.std.specs.Prelude.{slice_get}
use Rattle.poa_policy.specs.Entries.{EachAfter}

-- one more that keeps the rule with all before it
pub each_more : {A : Type 0} (R : List A → A → Type 0) (done xs : List A) (x : A) → EachAfter R done xs → R (done ++ xs) x → EachAfter R done (xs ++ x ∷ [])
each_more R done [] x each new = (subst (λ ys. R ys x) (append-nil done) new, tt)
each_more R done (y ∷ ys) x each new = (each.0, each_more R (done ++ y ∷ []) ys x each.1 (subst (λ zs. R zs x) (sym (append_snoc done y ys)) new))

-- the same for a weaker rule
pub each_weaker : {A : Type 0} (R S : List A → A → Type 0) (done xs : List A) → ((ys : List A) (x : A) → R ys x → S ys x) → EachAfter R done xs
    → EachAfter S done xs
each_weaker R S done [] weaker each = tt
each_weaker R S done (x ∷ xs) weaker each = (weaker done x each.0, each_weaker R S (done ++ x ∷ []) xs weaker each.1)

-- the entry of an index keeps the rule with those before that index
pub each_at : {A : Type 0} (R : List A → A → Type 0) (done xs : List A) (k : ℕ) (x : A) → EachAfter R done xs → slice_get xs k ≡ Some x
    → R (done ++ take k xs) x
each_at R done [] k x each here = absurd (none-some x here)
each_at R done (y ∷ ys) zero x each here = rw append-nil (subst (R done) (same_Some y x here) each.0)
each_at R done (y ∷ ys) (suc k) x each here = subst (λ zs. R zs x) (append_snoc done y (take k ys)) (each_at R (done ++ y ∷ []) ys k x each.1 here)
