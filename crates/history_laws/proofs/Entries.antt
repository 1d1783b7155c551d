-- Entries that keep a rule, and are told from one another by a key.
use Rattle.std.specs.Prelude.{◌≡◌, ◌≢◌, ℕ, zero, suc, true, false, not, cond, ◌+◌, List, [], ◌∷◌, ◌++◌, take, slice_get, Some}
use Rattle.std.specs.List.{AllByRecursion, position_or_len}
use Rattle.std.proofs.Common.{inl, inr, sym, subst, ap, ◌∙◌, arith}
use Rattle.std.proofs.lemmas.Bool.{false_from_ne_true}
use Rattle.std.proofs.lemmas.Option.{none-some, same_Some}
use Rattle.poa_policy.specs.Entries.{EachAfter, IsNew, IsEntry}
use Rattle.history_standing.specs.Paths.{same_bytes}
use Rattle.history_standing.specs.Trees.{In}
use Rattle.history_standing.proofs.Leading.{same_self, bytes_same}
use Rattle.history_standing.proofs.Members.{in_front, in_back}

-- what holds of each element holds of one
pub all_in : {A : Type 0} (P : A → Type 0) (xs : List A) (x : A) → AllByRecursion P xs → In x xs → P x
all_in P [] x all is = absurd is
all_in P (y ∷ ys) x all (inl same) = subst P (sym same) all.0
all_in P (y ∷ ys) x all (inr more) = all_in P ys x all.1 more

in_at : {A : Type 0} (xs : List A) (k : ℕ) (x : A) → slice_get xs k ≡ Some x → In x xs
in_at [] k x here = absurd (none-some x here)
in_at (y ∷ ys) zero x here = inl (sym (same_Some y x here))
in_at (y ∷ ys) (suc k) x here = inr (in_at ys k x here)

pub entry_in : {A : Type 0} (xs : List A) (x : A) → IsEntry xs x → In x xs
entry_in xs x entry = in_at xs entry.0 x entry.1

-- an entry keeps the rule with those before it
pub each_in : {A : Type 0} (R : List A → A → Type 0) (done xs : List A) (x : A) → EachAfter R done xs → In x xs → (before : List A) × R before x
each_in R done [] x each is = absurd is
each_in R done (y ∷ ys) x each (inl same) = (done, subst (R done) (sym same) each.0)
each_in R done (y ∷ ys) x each (inr more) = each_in R (done ++ y ∷ []) ys x each.1 more

-- where a rule says that the key is new, the key is that of one entry
module _ {A K : Type 0} (key : A → K) (R : List A → A → Type 0) (new : (done : List A) (x : A) → R done x → IsNew key done x) where
  other_later : (done xs : List A) (d x : A) → EachAfter R done xs → In d done → In x xs → key d ≡ key x → ⊥
  other_later done [] d x each before is same = is
  other_later done (y ∷ ys) d x each before (inl here) same = all_in (λ e. key e ≢ key y) done d (new done y each.0) before (same ∙ ap key here)
  other_later done (y ∷ ys) d x each before (inr more) same = other_later (done ++ y ∷ []) ys d x each.1 (in_front d y done before) more same

  pub alone_by_key : (done xs : List A) (x y : A) → EachAfter R done xs → In x xs → In y xs → key x ≡ key y → x ≡ y
  alone_by_key done [] x y each is is' same = absurd is
  alone_by_key done (z ∷ zs) x y each (inl a) (inl b) same = a ∙ sym b
  alone_by_key done (z ∷ zs) x y each (inl a) (inr b) same = absurd (other_later (done ++ z ∷ []) zs z y each.1 (in_back z done) b (ap key (sym a) ∙ same))
  alone_by_key done (z ∷ zs) x y each (inr a) (inl b) same = absurd (other_later (done ++ z ∷ []) zs z x each.1 (in_back z done) a (ap key (sym b) ∙ sym same))
  alone_by_key done (z ∷ zs) x y each (inr a) (inr b) same = alone_by_key (done ++ z ∷ []) zs x y each.1 a b same

-- the first entry of a name is the one whose name is new
pub place_first : {A : Type 0} (name : A → List ℕ) (xs : List A) (k : ℕ) (x : A) → slice_get xs k ≡ Some x → IsNew name (take k xs) x
    → position_or_len (λ y. same_bytes (name y) (name x)) xs ≡ k
place_first name [] k x here new = absurd (none-some x here)
place_first name (y ∷ ys) zero x here new =
    ap (λ b. cond (not b) (1 + position_or_len (λ z. same_bytes (name z) (name x)) ys) 0)
    (subst (λ z. same_bytes (name z) (name x) ≡ true) (sym (same_Some y x here)) (same_self (name x)))
place_first name (y ∷ ys) (suc k) x here new =
    let other : same_bytes (name y) (name x) ≡ false = false_from_ne_true _ (λ same. new.0 (bytes_same (name y) (name x) same)) in
    let first = ap (λ b. cond (not b) (1 + position_or_len (λ z. same_bytes (name z) (name x)) ys) 0) other in
    let rest = place_first name ys k x here new.1 in
    first ∙ omega (arith, rest)
