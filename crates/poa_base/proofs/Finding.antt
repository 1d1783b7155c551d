-- What a table of places finds is what a walk over the entries finds.
use Rattle.std.specs.Prelude.{slice_get, find, nat_eq}
use Rattle.std.specs.List.{position_from}
use Rattle.std.proofs.Common.{◌≡◌, ◌+◌, ℕ, suc, Bool, true, false, cond, List, [], ◌∷◌, None, Some, refl, sym, ap, ap₂, subst, ◌∙◌, arith}
use Rattle.std.proofs.lemmas.Bool.{and_parts, false_from_ne_true}
use Rattle.std.proofs.lemmas.Option.{same_Some}
use Rattle.std.specs.Cmp.{tied_itself, nat_cmp_total}
use Rattle.std.specs.Cmp.Lexicographic.{pointwise, same_text}
use Rattle.std.specs.Ordering.{is_eq, nat_cmp}
use Rattle.poa_base.specs.declared.config.AdapterConf.{AdapterConf}
use Rattle.std.specs.BTreeMap as tree
use Rattle.std.specs.BTreeMap.{BTreeMap}
use Rattle.poa_base.specs.Templates.{of_path, digest, has_digest, IsPlaced}

pub path_same : (p q : List (List ℕ)) → pointwise (pointwise nat_eq) p q ≡ true → p ≡ q
path_same [] [] same = refl
path_same [] (y ∷ q) same = absurd (let e : false ≡ true = same in cc)
path_same (x ∷ p) [] same = absurd (let e : false ≡ true = same in cc)
path_same (x ∷ p) (y ∷ q) same = let parts = and_parts (pointwise nat_eq x y) (pointwise (pointwise nat_eq) p q) same in
    ap₂ (λ a b. a ∷ b) (same_text x y (sym parts.0)) (path_same p q parts.1)

-- an entry of the path has its digest
pub digest_passes : (p : List (List ℕ)) (a : AdapterConf) → pointwise (pointwise nat_eq) a.path p ≡ true → has_digest (digest p) a ≡ true
digest_passes p a same =
    ap (λ q. is_eq (nat_cmp (digest q) (digest p))) (path_same a.path p same) ∙ ap is_eq (tied_itself nat_cmp_total (digest p))

fails_with : {A : Type 0} (same test : A → Bool) (x : A) → (same x ≡ true → test x ≡ true) → test x ≡ false → same x ≡ false
fails_with same test x passes fails = false_from_ne_true (same x) (λ s. let e : true ≡ false = sym (passes s) ∙ fails in absurd (cc))

-- where no entry passes the wider test, none passes the narrower
pub none_narrower : {A : Type 0} (same test : A → Bool) → ((x : A) → same x ≡ true → test x ≡ true) → (i : ℕ) (xs : List A)
    → position_from test i xs ≡ None → find same xs ≡ None
none_narrower same test passes i [] none = refl
none_narrower same test passes i (x ∷ xs) none =
    elim (test x) as (λ b. test x ≡ b → cond b (Some i) (position_from test (i + 1) xs) ≡ None → cond (same x) (Some x) (find same xs) ≡ None) [
      | true ↦ λ t is. absurd (cc)
      | false ↦ λ t is. ap (λ b. cond b (Some x) (find same xs)) (fails_with same test x (passes x) t) ∙ none_narrower same test passes (i + 1) xs is
    ] refl none

-- the first entry that passes the wider test is the first that passes the narrower, if it does
pub first_narrower : {A : Type 0} (same test : A → Bool) → ((x : A) → same x ≡ true → test x ≡ true) → (all xs : List A) (i k : ℕ)
    → ((j : ℕ) → slice_get all (i + j) ≡ slice_get xs j) → position_from test i xs ≡ Some k
    → (x : A) × (slice_get all k ≡ Some x) × (same x ≡ true → find same xs ≡ Some x)
first_narrower same test passes all [] i k at is = absurd (let e : None ≡ Some k = is in cc)
first_narrower {A} same test passes all (x ∷ xs) i k at is =
    elim (test x) as (λ b. test x ≡ b → cond b (Some i) (position_from test (i + 1) xs) ≡ Some k
    → (y : A) × (slice_get all k ≡ Some y) × (same y ≡ true → cond (same x) (Some x) (find same xs) ≡ Some y)) [
      | true ↦ λ t here. let e : i ≡ k = cc in let z : i + 0 ≡ k = omega (arith, e) in
          (x, sym (ap (slice_get all) z) ∙ at 0, λ s. ap (λ b. cond b (Some x) (find same xs)) s)
      | false ↦ λ t here.
          let step : (j : ℕ) → i + 1 + j ≡ i + suc j = λ j. omega arith in
          let more = first_narrower same test passes all xs (i + 1) k (λ j. ap (slice_get all) (step j) ∙ at (suc j)) here in
          (more.0, more.1, λ s. ap (λ b. cond b (Some x) (find same xs)) (fails_with same test x (passes x) t) ∙ more.2 s)
    ] refl is

module _ (places : BTreeMap ℕ ℕ) (entries : List AdapterConf) (placed : IsPlaced places entries) (p : List (List ℕ)) where
  -- no entry has the path where none has its digest
  pub none_of_digest : tree.get nat_cmp places (digest p) ≡ None → of_path entries p ≡ None
  none_of_digest none =
      none_narrower (λ a. pointwise (pointwise nat_eq) a.path p) (has_digest (digest p)) (digest_passes p) 0 entries (sym (placed (digest p)) ∙ none)

  -- the place of a digest has an entry, and that is the first of the path if it has the path
  pub first_of_digest : (k : ℕ) → tree.get nat_cmp places (digest p) ≡ Some k
      → (a : AdapterConf) × (slice_get entries k ≡ Some a) × (pointwise (pointwise nat_eq) a.path p ≡ true → of_path entries p ≡ Some a)
  first_of_digest k is =
      first_narrower (λ a. pointwise (pointwise nat_eq) a.path p) (has_digest (digest p)) (digest_passes p) entries entries 0 k (λ j. ap (slice_get entries) (omega arith))
      (sym (placed (digest p)) ∙ is)

  pub some_at_digest : (k : ℕ) → tree.get nat_cmp places (digest p) ≡ Some k → slice_get entries k ≡ None → ⊥
  some_at_digest k is none = let first = first_of_digest k is in let e : None ≡ Some first.0 = sym none ∙ first.1 in cc

  pub first_at_digest : (k : ℕ) (a : AdapterConf) → tree.get nat_cmp places (digest p) ≡ Some k → slice_get entries k ≡ Some a
      → pointwise (pointwise nat_eq) a.path p ≡ true → of_path entries p ≡ Some a
  first_at_digest k a is at same =
      let first = first_of_digest k is in
      let one : a ≡ first.0 = same_Some a first.0 (sym at ∙ first.1) in
      first.2 (subst (λ b. pointwise (pointwise nat_eq) b.path p ≡ true) one same) ∙ ap Some (sym one)
