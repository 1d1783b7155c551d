-- What is asked of the activations of one adapter, by the index, is asked of all.
use Rattle.std.specs.Prelude.{◌≡◌, ◌==◌, ℕ, Bool, true, false, cond, List, [], ◌∷◌, filter, Some, None, refl}
use Rattle.std.specs.List.{list_any}
use Rattle.std.specs.List.Sorted.{IsStrictlySortedBy}
use Rattle.std.specs.BTreeMap.{BTreeMap, get, get_by, is_at}
use Rattle.std.specs.Cmp.Lexicographic.{slice_cmp}
use Rattle.std.specs.Global.{Vec}
use Rattle.std.specs.Map.{keys_of, values_of, lookup}
use Rattle.std.specs.Ordering.{nat_cmp}
use Rattle.std.proofs.Common.{inl, inr, sym, ap, subst, ◌∙◌}
use Rattle.std.proofs.lemmas.Bool.{and_from, eq-eqb, false_from_ne_true}
use Rattle.history_standing.specs.declared.activation.Activation.{Activation}
use Rattle.history_standing.specs.Standings.{is_of}
use Rattle.history_standing.proofs.Members.{some_in, any_in, image_in, kept_in}
use Rattle.history_standing.specs.Paths.{same_bytes}
use Rattle.history_standing.specs.Trees.{In}
use Rattle.history_standing.proofs.Leading.{same_self}
use Rattle.active_map.specs.Asked.{at_one}
use Rattle.active_map.specs.ById.{Ids, numbers_in, numbers_of}
use Rattle.active_map.specs.Tables.{CoversOf, IsKeyed, IsIndexed}
use Rattle.active_map.proofs.IdsKept.{row_of}
use Rattle.history_standing.proofs.Tests.{same_test}

-- what a look-up finds is among the values
pub value_in : {K X : Type 0} (test : K → Bool) (es : List (K × X)) (v : X) → lookup test es ≡ Some v → In v (values_of es)
value_in test [] v is = absurd (let e : None ≡ Some v = is in cc)
value_in {K} {X} test (e ∷ es) v is =
    elim (test e.0) as (λ t. cond t (Some e.1) (lookup test es) ≡ Some v → In v (values_of (e ∷ es))) [
      | true ↦ (λ here. inl (let same : v ≡ e.1 = (let s : Some e.1 ≡ Some v = here in cc) in same))
      | false ↦ (λ there. inr (value_in test es v there))
    ] is

module _ (rows : List (ℕ × Activation)) (test : Activation → Bool) where
  abbrev asked : ℕ → Bool
  asked n = at_one test (lookup (is_at (nat_cmp n)) rows)

  abbrev asked_of : Vec ℕ → Bool
  asked_of numbers = list_any asked numbers.items

  -- what passes by its number is one of them
  by_number : (n : ℕ) → asked n ≡ true → list_any test (values_of rows) ≡ true
  by_number n passes =
      elim (lookup (is_at (nat_cmp n)) rows) as (λ o. lookup (is_at (nat_cmp n)) rows ≡ o → at_one test o ≡ true → list_any test (values_of rows) ≡ true) [
        | Some a ↦ (λ found passes. any_in test a (values_of rows) (value_in (is_at (nat_cmp n)) rows a found) passes)
        | None ↦ (λ _ never. absurd (let e : false ≡ true = never in cc))
      ] refl passes

  by_numbers : (all : List (Vec ℕ)) → list_any asked_of all ≡ true → list_any test (values_of rows) ≡ true
  by_numbers all passes =
      (let some = some_in asked_of all passes in
      let one = some_in asked some.0.items some.2 in
      by_number one.0 one.2)

  -- where the number of each that passes is among some, to ask these is to ask all
  pub asked_among : IsKeyed rows → IsStrictlySortedBy nat_cmp (keys_of rows) → (is : Activation → Bool) → ((a : Activation) → test a ≡ true → is a ≡ true)
      → (numbers : List ℕ) → CoversOf is numbers (values_of rows) → list_any asked numbers ≡ list_any test (values_of rows)
  asked_among keyed ordered is passes numbers covers =
      same_test (list_any asked numbers) (list_any test (values_of rows))
      (λ some. (let one = some_in asked numbers some in by_number one.0 one.2))
      (λ some. (let one = some_in test (values_of rows) some in
      any_in asked one.0.number numbers (covers one.0 one.1 (passes one.0 one.2)) (ap (at_one test) (row_of rows keyed ordered one.0 one.1) ∙ one.2)))

  module _ (index : BTreeMap ℕ Ids) (keyed : IsKeyed rows) (ordered : IsStrictlySortedBy nat_cmp (keys_of rows)) (indexed : IsIndexed index (values_of rows))
      (k : ℕ) (whose : (a : Activation) → test a ≡ true → a.adapter ≡ k) where
    -- the index has the number of one that passes
    is_there : (a : Activation) → In a (values_of rows) → test a ≡ true → In a.number (numbers_of index k a.oid)
    is_there a there passes =
        subst (In a.number) (sym (indexed k a.oid))
        (image_in (λ (b : Activation). b.number) a (filter (is_of k a.oid) (values_of rows))
        (kept_in (is_of k a.oid) a (values_of rows) there
        (and_from (a.adapter == k) (same_bytes a.oid a.oid) (eq-eqb a.adapter k (whose a passes)) (same_self a.oid))))

    -- so it passes by that
    of_ids : (ids : Ids) (a : Activation) → In a (values_of rows) → test a ≡ true → In a.number (numbers_in ids a.oid)
        → list_any asked_of (values_of ids.entries) ≡ true
    of_ids ids a there passes is =
        elim (get_by (λ key. slice_cmp nat_cmp a.oid key.items) ids) as (λ o. get_by (λ key. slice_cmp nat_cmp a.oid key.items) ids ≡ o
        → In a.number (elim o [ None ↦ [] | Some numbers ↦ numbers.items ]) → list_any asked_of (values_of ids.entries) ≡ true) [
          | None ↦ (λ _ none. absurd none)
          | Some numbers ↦ (λ found among. any_in asked_of numbers (values_of ids.entries)
              (value_in (is_at (λ key. slice_cmp nat_cmp a.oid key.items)) ids.entries numbers found)
              (any_in asked a.number numbers.items among (ap (at_one test) (row_of rows keyed ordered a there) ∙ passes)))
        ] refl is

    pub asked_by_ids : (ids : Ids) → get nat_cmp index k ≡ Some ids → list_any asked_of (values_of ids.entries) ≡ list_any test (values_of rows)
    asked_by_ids ids had =
        same_test (list_any asked_of (values_of ids.entries)) (list_any test (values_of rows)) (by_numbers (values_of ids.entries))
        (λ some. (let one = some_in test (values_of rows) some in
        of_ids ids one.0 one.1 one.2
        (subst (λ o. In one.0.number (elim o [ None ↦ [] | Some found ↦ numbers_in found one.0.oid ])) had (is_there one.0 one.1 one.2))))

    pub asked_of_none : get nat_cmp index k ≡ None → false ≡ list_any test (values_of rows)
    asked_of_none none =
        sym (false_from_ne_true (list_any test (values_of rows))
        (λ some. (let one = some_in test (values_of rows) some in
        let among : In one.0.number [] = subst (λ o. In one.0.number (elim o [ None ↦ [] | Some ids ↦ numbers_in ids one.0.oid ])) none
        (is_there one.0 one.1 one.2) in absurd among)))
