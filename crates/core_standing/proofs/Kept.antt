-- What a test finds among elements it finds among those that are kept, where what isn't kept fails it.
use Rattle.std.specs.Prelude.{◌≡◌, Bool, true, false, not, ◌||◌, ◌&&◌, List, [], ◌∷◌, filter, find, Some, cond, refl}
use Rattle.std.specs.List.{list_any, list_all}
use Rattle.std.proofs.Common.{inl, inr, sym, ap, subst, ◌∙◌}
use Rattle.std.proofs.lemmas.Bool.{cond_both}
use Rattle.poa_base.specs.declared.Config.{Config}
use Rattle.history_standing.specs.declared.activation.Activation.{Activation}
use Rattle.history_standing.specs.Ends.{is_over}
use Rattle.history_standing.specs.Trees.{In}
use Rattle.core_standing.specs.Seen.{forgotten}
use Rattle.active_map.specs.Live.{is_live}
use Rattle.core_standing.specs.Kept.{Forgets}

pub any_kept : {A : Type 0} (keeps test : A → Bool) (xs : List A) → ((x : A) → In x xs → keeps x ≡ false → test x ≡ false)
    → list_any test (filter keeps xs) ≡ list_any test xs
any_kept keeps test [] fails = refl
any_kept keeps test (x ∷ xs) fails =
    let rest : list_any test (filter keeps xs) ≡ list_any test xs = any_kept keeps test xs (λ y is. fails y (inr is)) in
    cond_both (keeps x) (x ∷ filter keeps xs) (filter keeps xs) (λ ys. list_any test ys ≡ (test x || list_any test xs))
    (λ _. ap (λ b. test x || b) rest)
    (λ goes. rest ∙ ap (λ b. b || list_any test xs) (sym (fails x (inl refl) goes)))

pub all_kept : {A : Type 0} (keeps test : A → Bool) (xs : List A) → ((x : A) → In x xs → keeps x ≡ false → test x ≡ true)
    → list_all test (filter keeps xs) ≡ list_all test xs
all_kept keeps test [] passes = refl
all_kept keeps test (x ∷ xs) passes =
    let rest : list_all test (filter keeps xs) ≡ list_all test xs = all_kept keeps test xs (λ y is. passes y (inr is)) in
    cond_both (keeps x) (x ∷ filter keeps xs) (filter keeps xs) (λ ys. list_all test ys ≡ (test x && list_all test xs))
    (λ _. ap (λ b. test x && b) rest)
    (λ goes. rest ∙ ap (λ b. b && list_all test xs) (sym (passes x (inl refl) goes)))

pub find_kept : {A : Type 0} (keeps test : A → Bool) (xs : List A) → ((x : A) → In x xs → keeps x ≡ false → test x ≡ false)
    → find test (filter keeps xs) ≡ find test xs
find_kept keeps test [] fails = refl
find_kept keeps test (x ∷ xs) fails =
    let rest : find test (filter keeps xs) ≡ find test xs = find_kept keeps test xs (λ y is. fails y (inr is)) in
    cond_both (keeps x) (x ∷ filter keeps xs) (filter keeps xs) (λ ys. find test ys ≡ cond (test x) (Some x) (find test xs))
    (λ _. ap (λ o. cond (test x) (Some x) o) rest)
    (λ goes. rest ∙ ap (λ b. cond b (Some x) (find test xs)) (sym (fails x (inl refl) goes)))

over_by : (b : Bool) → not b ≡ false → b ≡ true
over_by true is = refl
over_by false is = absurd (let e : true ≡ false = is in cc)

-- where some of what is over is forgotten, tests that what is over fails find the same
module _ (c : Config) (all some : List Activation) (forgets : Forgets c all some) where
  known_by : (P : Activation → Type 0) → P forgotten → ((a : Activation) → In a all → is_over c a ≡ true → P a) → (a : Activation) → In a some
      → is_live c a ≡ false → P a
  known_by P spent old a is over =
      elim (forgets.known a is) [
        | inl same ↦ subst P (sym same) spent
        | inr there ↦ old a there (over_by (is_over c a) over)
      ]

  pub any_alike : (test : Activation → Bool) → test forgotten ≡ false → ((a : Activation) → In a all → is_over c a ≡ true → test a ≡ false)
      → list_any test some ≡ list_any test all
  any_alike test spent old =
      sym (any_kept (is_live c) test some (known_by (λ a. test a ≡ false) spent old))
      ∙ ap (list_any test) forgets.lives
      ∙ any_kept (is_live c) test all (λ a is over. old a is (over_by (is_over c a) over))

  pub all_alike : (test : Activation → Bool) → test forgotten ≡ true → ((a : Activation) → In a all → is_over c a ≡ true → test a ≡ true)
      → list_all test some ≡ list_all test all
  all_alike test spent old =
      sym (all_kept (is_live c) test some (known_by (λ a. test a ≡ true) spent old))
      ∙ ap (list_all test) forgets.lives
      ∙ all_kept (is_live c) test all (λ a is over. old a is (over_by (is_over c a) over))

  pub find_alike : (test : Activation → Bool) → test forgotten ≡ false → ((a : Activation) → In a all → is_over c a ≡ true → test a ≡ false)
      → find test some ≡ find test all
  find_alike test spent old =
      sym (find_kept (is_live c) test some (known_by (λ a. test a ≡ false) spent old))
      ∙ ap (find test) forgets.lives
      ∙ find_kept (is_live c) test all (λ a is over. old a is (over_by (is_over c a) over))
