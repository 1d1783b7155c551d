-- The numbers of those that are leaving are kept, whatever is changed; and a search by them finds what a search of all does.
use Rattle.std.specs.Prelude.{◌≡◌, ℕ, ◌<◌, ◌≤◌, Bool, true, false, not, ◌==◌, if◌then◌else◌, cond, is_some, List, [], ◌∷◌, ◌++◌, map, filter, find, Option, Some, None, ◌⊎◌, refl}
use Rattle.std.specs.List.{AllByRecursion, filter_map, cons_option}
use Rattle.std.specs.List.Sorted.{IsStrictlySortedBy}
use Rattle.std.specs.BTreeMap.{is_at}
use Rattle.std.specs.BTreeSet.{insert_key}
use Rattle.std.specs.Map.{keys_of, values_of, lookup}
use Rattle.std.specs.Ordering.{nat_cmp, is_eq, match_ordering}
use Rattle.std.specs.Set.{remove_key}
use Rattle.std.specs.declared.cmp.Ordering.TheVariants.{Less, Equal, Greater}
use Rattle.std.proofs.Common.{inl, inr, sym, ap, subst, ◌∙◌, arith}
use Rattle.std.proofs.lemmas.Bool.{cases_Bool, cond_both, cond-true, cond-false, eqb-true, true≢false, false_from_ne_true, and_left, and_right}
use Rattle.std.proofs.lemmas.Grind.{common_steps}
use Rattle.std.proofs.lemmas.Map.Keys.{sorted_head, sorted_tail}
use Rattle.history_standing.specs.declared.activation.Activation.{Activation}
use Rattle.history_standing.specs.declared.activation.Phase.{Phase}
use Rattle.history_standing.specs.Ends.{is_left, let_out}
use Rattle.history_standing.specs.Standings.{Standing, is_begun}
use Rattle.history_standing.specs.Changes.{at_number, come_to}
use Rattle.poa_base.specs.declared.Config.{Config}
use Rattle.history_standing.specs.Trees.{In}
use Rattle.history_standing.proofs.Members.{in_either, in_image, in_kept}
use Rattle.active_map.specs.declared.ending.Ending.{Ending}
use Rattle.active_map.specs.declared.ending.Ending.TheVariants.{Below, Managed, Id}
use Rattle.active_map.specs.Endings.{takes, marked, ended}
use Rattle.active_map.specs.Tables.{is_leaving, IsKeyed, Covers, CoversOf, Keeps}
use Rattle.active_map.proofs.Asking.{value_in}
use Rattle.active_map.proofs.IdsKept.{row_of}
use Rattle.active_map.proofs.RowsKept.{at_is, keeps_where, number_found, values_kept}

-- ---- a number more, and one less

pub entered : (n : ℕ) (ns : List ℕ) → In n (insert_key nat_cmp ns n)
entered n [] = inl refl
entered n (m ∷ ns) =
    elim (nat_cmp n m) as (λ o. nat_cmp n m ≡ o → In n (match_ordering o (n ∷ m ∷ ns) (m ∷ ns) (m ∷ insert_key nat_cmp ns n))) [
      | Less ↦ λ _. inl refl
      | Equal ↦ λ same. inl (sym (eqb-true m n (sym (at_is n m) ∙ ap is_eq same)))
      | Greater ↦ λ _. inr (entered n ns)
    ] refl

pub stays_with : (k n : ℕ) (ns : List ℕ) → In k ns → In k (insert_key nat_cmp ns n)
stays_with k n [] there = absurd there
stays_with k n (m ∷ ns) there =
    elim (nat_cmp n m) as (λ o. In k (match_ordering o (n ∷ m ∷ ns) (m ∷ ns) (m ∷ insert_key nat_cmp ns n))) [
      | Less ↦ inr there
      | Equal ↦ there
      | Greater ↦ elim there [ inl same ↦ inl same | inr later ↦ inr (stays_with k n ns later) ]
    ]

pub stays_without : (k n : ℕ) (ns : List ℕ) → In k ns → (k == n) ≡ false → In k (remove_key (is_at (nat_cmp n)) ns)
stays_without k n [] there other = absurd there
stays_without k n (m ∷ ns) there other =
    elim (is_at (nat_cmp n) m) as (λ t. is_at (nat_cmp n) m ≡ t → In k (cond t ns (m ∷ remove_key (is_at (nat_cmp n)) ns))) [
      | true ↦ (λ hit. elim there [
        | inl same ↦ absurd (true≢false (sym (ap (λ x. x == n) same ∙ sym (at_is n m) ∙ hit) ∙ other))
        | inr later ↦ later
      ])
      | false ↦ (λ _. elim there [ inl same ↦ inl same | inr later ↦ inr (stays_without k n ns later other) ])
    ] refl

-- ---- those that a command ends are entered, from the first on

-- no number is lost, and each of those that the command ends has its number here or is still to come
pub record EntersUpTo (test : Activation → Bool) (old new : List ℕ) (all rest : List Activation) : Type 0 where
  pub wider : (n : ℕ) → In n old → In n new
  pub here : (a : Activation) → In a all → test a ≡ true → In a.number new ⊎ In a rest

pub enters_more : (test : Activation → Bool) (old new : List ℕ) (all rest : List Activation) (a : Activation) → EntersUpTo test old new all (a ∷ rest)
    → (new' : List ℕ) → ((n : ℕ) → In n new → In n new') → In a.number new' → EntersUpTo test old new' all rest
enters_more test old new all rest a so_far new' wider its =
    record {
      wider = λ n there. wider n (so_far.wider n there);
      here = λ b there passes. elim (so_far.here b there passes) [
        | inl was ↦ inl (wider b.number was)
        | inr left ↦ elim left [ inl same ↦ inl (subst (λ (x : Activation). In x.number new') (sym same) its) | inr later ↦ inr later ]
      ];
    }

-- ---- after a change of the activations

keeps_mark : (e : Ending) → Keeps (marked e)
keeps_mark (Below nodes path etherealize) = record { number = λ a. refl; adapter = λ a. refl; oid = λ a. refl }
keeps_mark (Managed c manager) = record { number = λ a. refl; adapter = λ a. refl; oid = λ a. refl }
keeps_mark (Id k oid) = record { number = λ a. refl; adapter = λ a. refl; oid = λ a. refl }

-- those for which a test holds are changed
pub covers_where : (is : Activation → Bool) (ns : List ℕ) (test : Activation → Bool) (f : Activation → Activation) (as' : List Activation) → Keeps f
    → ((a : Activation) → In a as' → test a ≡ true → is (f a) ≡ true → In a.number ns)
    → ((a : Activation) → In a as' → test a ≡ false → is a ≡ true → In a.number ns)
    → CoversOf is ns (map (λ a. if test a then f a else a) as')
covers_where is ns test f as' keeps hit miss b there leaves =
    (let g : Activation → Activation = (λ a. if test a then f a else a) in
    let found = in_image g b as' there in
    let a = found.0 in
    subst (λ n. In n ns) (sym (ap (λ (x : Activation). x.number) found.2 ∙ (keeps_where test f keeps).number a))
    (elim (test a) as (λ t. test a ≡ t → is (if t then f a else a) ≡ true → In a.number ns)
    [ true ↦ hit a found.1 | false ↦ miss a found.1 ] refl (ap is (sym found.2) ∙ leaves)))

-- that of a number is changed, and isn't leaving unless it was
pub covers_at : (ns : List ℕ) (n : ℕ) (f : Activation → Activation) (as' : List Activation) → Keeps f
    → ((a : Activation) → is_leaving (f a) ≡ true → is_leaving a ≡ true) → Covers ns as' → Covers ns (map (λ a. if a.number == n then f a else a) as')
covers_at ns n f as' keeps stays covers =
    covers_where is_leaving ns (λ a. a.number == n) f as' keeps (λ a there _ leaves. covers a there (stays a leaves)) (λ a there _ leaves. covers a there leaves)

-- that of a number was changed and isn't leaving, and its number is struck
pub covers_struck : (ns ns' : List ℕ) (n : ℕ) (f : Activation → Activation) (as' : List Activation) → ((a : Activation) → is_leaving (f a) ≡ false)
    → ((k : ℕ) → In k ns → (k == n) ≡ false → In k ns') → Covers ns (map (at_number n f) as')
    → Covers ns' (map (at_number n f) as')
covers_struck ns ns' n f as' gone struck covers a there leaves =
    struck a.number (covers a there leaves) (false_from_ne_true (a.number == n) (λ hit. (let found = in_image (at_number n f) a as' there in
    let b = found.0 in
    elim (cases_Bool (b.number == n)) [
      | inl its ↦ true≢false (sym leaves ∙ ap is_leaving (found.2 ∙ cond-true (b.number == n) (f b) b its) ∙ gone b)
      | inr other ↦ true≢false (sym hit ∙ ap (λ (x : Activation). x.number == n) (found.2 ∙ cond-false (b.number == n) (f b) b other) ∙ other)
    ])))

pub gone_out : (a : Activation) → is_leaving (record a { out = true }) ≡ false
gone_out a = and_right a.ending false refl

pub stays_come : (phase : Phase) (a : Activation) → is_leaving (come_to phase a) ≡ true → is_leaving a ≡ true
stays_come phase a =
    cond_both (is_begun a) (record a { phase = phase }) a (λ b. is_leaving b ≡ true → is_leaving a ≡ true) (λ _ leaves. leaves) (λ _ leaves. leaves)

pub stays_in : (c : Config) (s : Standing) (a : Activation) → is_leaving (let_out c s a) ≡ true → is_leaving a ≡ true
stays_in c s a =
    cond_both (is_left c s a) (record a { out = true }) a (λ b. is_leaving b ≡ true → is_leaving a ≡ true)
    (λ _ leaves. absurd (true≢false (sym leaves ∙ gone_out a))) (λ _ leaves. leaves)

-- each is changed, and isn't leaving unless it was
pub covers_each : (ns : List ℕ) (f : Activation → Activation) (as' : List Activation) → Keeps f
    → ((a : Activation) → is_leaving (f a) ≡ true → is_leaving a ≡ true) → Covers ns as' → Covers ns (map f as')
covers_each ns f as' keeps stays covers =
    covers_where is_leaving ns (λ a. true) f as' keeps (λ a there _ leaves. covers a there (stays a leaves)) (λ a there never _. absurd (true≢false never))

-- those that a command ends are leaving from now on
pub covers_ended : (e : Ending) (ns ns' : List ℕ) (as' : List Activation) → ((n : ℕ) → In n ns → In n ns')
    → ((a : Activation) → In a as' → takes e a ≡ true → In a.number ns') → Covers ns as' → Covers ns' (map (ended e) as')
covers_ended e ns ns' as' wider here covers =
    covers_where is_leaving ns' (takes e) (marked e) as' (keeps_mark e) (λ a there taken _. here a there taken)
    (λ a there _ leaves. wider a.number (covers a there leaves))

pub keeps_ended : (e : Ending) → Keeps (ended e)
keeps_ended e = keeps_where (takes e) (marked e) (keeps_mark e)

-- one more is begun
pub covers_more : (ns : List ℕ) (a : Activation) (as' : List Activation) → a.ending ≡ false → Covers ns as' → Covers ns (as' ++ a ∷ [])
covers_more ns a as' lasts covers b there leaves =
    elim (in_either b a as' there) [
      | inl was ↦ covers b was leaves
      | inr same ↦ absurd (true≢false (sym leaves ∙ ap is_leaving same ∙ and_left a.ending (not a.out) lasts))
    ]

-- some are kept, and the numbers of these
pub covers_rest : (is : Activation → Bool) (p : Activation → Bool) (rows rows' : List (ℕ × Activation)) → rows' ≡ filter (λ row. p row.1) rows → IsKeyed rows'
    → IsStrictlySortedBy nat_cmp (keys_of rows') → (ns ns' : List ℕ)
    → ((n : ℕ) → In n ns → is_some (lookup (is_at (nat_cmp n)) rows') ≡ true → In n ns') → CoversOf is ns (values_of rows) → CoversOf is ns' (values_of rows')
covers_rest is p rows rows' rest keyed ordered ns ns' stays covers a there leaves =
    (let was = in_kept p a (values_of rows) (subst (In a) (ap values_of rest ∙ values_kept p rows) there) in
    stays a.number (covers a was.0 leaves) (ap is_some (row_of rows' keyed ordered a there)))

-- where the row of a number is gone, its number may be struck
pub struck_stays : (n : ℕ) (rows : List (ℕ × Activation)) → lookup (is_at (nat_cmp n)) rows ≡ None → (ns ns' : List ℕ)
    → ((k : ℕ) → In k ns → (k == n) ≡ false → In k ns') → (k : ℕ) → In k ns → is_some (lookup (is_at (nat_cmp k)) rows) ≡ true → In k ns'
struck_stays n rows gone ns ns' struck k was has =
    struck k was (false_from_ne_true (k == n) (λ hit. true≢false
    (sym has ∙ ap (λ m. is_some (lookup (is_at (nat_cmp m)) rows)) (eqb-true k n hit) ∙ ap is_some gone)))

-- ---- a search by numbers

below : (n m : ℕ) → nat_cmp n m ≡ Less → n < m
below n m less = grind (arith, common_steps, less)

past_more : (n : ℕ) (ns : List ℕ) → AllByRecursion (λ y. nat_cmp n y ≡ Less) ns → (m : ℕ) → In m ns → n < m
past_more n [] past m there = absurd there
past_more n (k ∷ ns) past m (inl same) = (let low = below n k past.0 in let e : m ≡ k = same in omega (arith, low, e))
past_more n (k ∷ ns) past m (inr there) = past_more n ns past.1 m there

key_in : (rows : List (ℕ × Activation)) → IsKeyed rows → (a : Activation) → In a (values_of rows) → In a.number (keys_of rows)
key_in [] keyed a there = absurd there
key_in (row ∷ rows) keyed a (inl same) = inl (ap (λ (b : Activation). b.number) same ∙ keyed.0)
key_in (row ∷ rows) keyed a (inr there) = inr (key_in rows keyed.1 a there)

none_passes : (p : Activation → Bool) (as' : List Activation) → ((a : Activation) → In a as' → p a ≡ true → ⊥) → find p as' ≡ None
none_passes p [] none = refl
none_passes p (a ∷ as') none =
    cond-false (p a) (Some a) (find p as') (false_from_ne_true (p a) (none a (inl refl))) ∙ none_passes p as' (λ b there. none b (inr there))

-- the first that passes is the one with the least number
first_least : (p : Activation → Bool) (rows : List (ℕ × Activation)) → IsKeyed rows → IsStrictlySortedBy nat_cmp (keys_of rows) → (a : Activation)
    → In a (values_of rows) → p a ≡ true → ((b : Activation) → In b (values_of rows) → p b ≡ true → a.number ≤ b.number) → find p (values_of rows) ≡ Some a
first_least p [] keyed ordered a there passes least = absurd there
first_least p (row ∷ rows) keyed ordered a there passes least =
    elim (p row.1) as (λ t. p row.1 ≡ t → cond t (Some row.1) (find p (values_of rows)) ≡ Some a) [
      | true ↦ (λ hit. elim there [
        | inl same ↦ ap (λ b. Some b) (sym same)
        | inr later ↦ absurd (let low = least row.1 (inl refl) hit in
            let more = past_more row.0 (keys_of rows) (sorted_head nat_cmp row.0 (keys_of rows) ordered) a.number (key_in rows keyed.1 a later) in
            let its : row.1.number ≡ row.0 = keyed.0 in omega (arith, low, more, its))
      ])
      | false ↦ (λ miss. elim there [
        | inl same ↦ absurd (true≢false (sym passes ∙ ap p same ∙ miss))
        | inr later ↦ first_least p rows keyed.1 (sorted_tail nat_cmp row.0 (keys_of rows) ordered) a later passes (λ b b_in. least b (inr b_in))
      ])
    ] refl

-- where the number of each that passes is among them, the first by these numbers is the first of all
module _ (p : Activation → Bool) (rows : List (ℕ × Activation)) (keyed : IsKeyed rows) (ordered : IsStrictlySortedBy nat_cmp (keys_of rows))
    (look : ℕ → Option Activation) (looks : (n : ℕ) → look n ≡ lookup (is_at (nat_cmp n)) rows) where
  -- what is found is the only one of the number
  found_is : (n : ℕ) (b : Activation) → In b (values_of rows) → b.number ≡ n → look n ≡ Some b
  found_is n b there its = looks n ∙ ap (λ k. lookup (is_at (nat_cmp k)) rows) (sym its) ∙ row_of rows keyed ordered b there

  pub first_by_numbers : (ns : List ℕ) → IsStrictlySortedBy nat_cmp ns → ((b : Activation) → In b (values_of rows) → p b ≡ true → In b.number ns)
      → find p (filter_map look ns) ≡ find p (values_of rows)
  first_by_numbers [] sorted all = sym (none_passes p (values_of rows) all)
  first_by_numbers (n ∷ ns) sorted all =
      elim (look n) as (λ o. look n ≡ o → find p (cons_option o (filter_map look ns)) ≡ find p (values_of rows)) [
        | None ↦ (λ none. first_by_numbers ns (sorted_tail nat_cmp n ns sorted) (λ b there passes. elim (all b there passes) [
          | inl same ↦ absurd (let e : Some b ≡ None = sym (found_is n b there same) ∙ none in cc)
          | inr later ↦ later
        ]))
        | Some a ↦ (λ found. elim (p a) as (λ t. p a ≡ t → cond t (Some a) (find p (filter_map look ns)) ≡ find p (values_of rows)) [
          | true ↦ (λ hit. sym (first_least p rows keyed ordered a (value_in (is_at (nat_cmp n)) rows a (sym (looks n) ∙ found)) hit
              (λ b there passes. (let its = number_found n rows keyed a (sym (looks n) ∙ found) in elim (all b there passes) [
                | inl same ↦ (let e : b.number ≡ n = same in omega (arith, its, e))
                | inr later ↦ (let more = past_more n ns (sorted_head nat_cmp n ns sorted) b.number later in omega (arith, its, more))
              ]))))
          | false ↦ (λ miss. first_by_numbers ns (sorted_tail nat_cmp n ns sorted) (λ b there passes. elim (all b there passes) [
            | inl same ↦ absurd (let e : Some b ≡ Some a = sym (found_is n b there same) ∙ found in
                let one : b ≡ a = cc in true≢false (sym passes ∙ ap p one ∙ miss))
            | inr later ↦ later
          ]))
        ] refl)
      ] refl
