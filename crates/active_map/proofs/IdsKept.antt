-- The index by id agrees with the rows of a table, whatever is changed of both.
use Rattle.std.specs.Prelude.{◌≡◌, ℕ, ◌<◌, Bool, true, false, not, ◌&&◌, ◌==◌, cond, List, [], ◌∷◌, ◌++◌, map, filter, find, Option, Some, ◌⊎◌, refl}
use Rattle.std.specs.List.{AllByRecursion, filter_map, cons_option}
use Rattle.std.specs.List.Sorted.{IsStrictlySortedBy}
use Rattle.std.specs.BTreeMap.{BTreeMap, is_at}
use Rattle.std.specs.Map.{keys_of, values_of, lookup}
use Rattle.std.specs.Ordering.{nat_cmp}
use Rattle.std.specs.declared.cmp.Ordering.TheVariants.{Less}
use Rattle.std.proofs.Common.{inl, inr, sym, ap, ap₂, subst, ◌∙◌, arith}
use Rattle.std.proofs.lemmas.Bool.{cases_Bool, cond-true, cond-false, and_parts, and_from, eqb-true, eq-eqb, true≢false, false_from_ne_true}
use Rattle.std.proofs.lemmas.List.{append-nil, append_assoc, map-append}
use Rattle.std.proofs.lemmas.List.Elements.{filter-append}
use Rattle.std.proofs.lemmas.Map.Keys.{sorted_head, sorted_tail}
use Rattle.poa_base.specs.declared.Config.{Config}
use Rattle.history_standing.specs.declared.activation.Activation.{Activation}
use Rattle.history_standing.specs.Ends.{is_over}
use Rattle.history_standing.specs.Standings.{is_of}
use Rattle.history_standing.specs.Paths.{same_bytes}
use Rattle.history_standing.specs.Trees.{In}
use Rattle.history_standing.proofs.Leading.{same_self, bytes_same}
use Rattle.history_standing.proofs.Members.{in_kept}
use Rattle.active_map.specs.ById.{Ids, numbers_of, IsAt}
use Rattle.active_map.specs.Live.{is_live, live}
use Rattle.active_map.specs.Tables.{IsKeyed, IsIndexed, Keeps}
use Rattle.active_map.proofs.RowsKept.{at_is, apart}

-- ---- a change of each that leaves what it is found by

of_each : (f : Activation → Activation) → Keeps f → (k : ℕ) (oid : List ℕ) (a : Activation) → is_of k oid (f a) ≡ is_of k oid a
of_each f keeps k oid a = ap₂ (λ x y. (x == k) && same_bytes y oid) (keeps.adapter a) (keeps.oid a)

names_each : (f : Activation → Activation) → Keeps f → (k : ℕ) (oid : List ℕ) (as' : List Activation)
    → map (λ a. a.number) (filter (is_of k oid) (map f as')) ≡ map (λ a. a.number) (filter (is_of k oid) as')
names_each f keeps k oid [] = refl
names_each f keeps k oid (a ∷ as') =
    ap (λ t. map (λ b. b.number) (cond t (f a ∷ filter (is_of k oid) (map f as')) (filter (is_of k oid) (map f as')))) (of_each f keeps k oid a)
    ∙ elim (is_of k oid a) as (λ t. map (λ b. b.number) (cond t (f a ∷ filter (is_of k oid) (map f as')) (filter (is_of k oid) (map f as')))
    ≡ map (λ b. b.number) (cond t (a ∷ filter (is_of k oid) as') (filter (is_of k oid) as')))
    [ true ↦ ap₂ (λ n ns. n ∷ ns) (keeps.number a) (names_each f keeps k oid as') | false ↦ names_each f keeps k oid as' ]

pub indexed_each : (ids : BTreeMap ℕ Ids) (f : Activation → Activation) → Keeps f → (as' : List Activation) → IsIndexed ids as' → IsIndexed ids (map f as')
indexed_each ids f keeps as' indexed k oid = indexed k oid ∙ sym (names_each f keeps k oid as')

-- ---- one more, and one less

whose : (k : ℕ) (oid : List ℕ) (a : Activation) → is_of k oid a ≡ true → (k ≡ a.adapter) × (oid ≡ a.oid)
whose k oid a is =
    (let parts = and_parts (a.adapter == k) (same_bytes a.oid oid) is in (sym (eqb-true a.adapter k parts.0), sym (bytes_same a.oid oid parts.1)))

not_whose : (k : ℕ) (oid : List ℕ) (a : Activation) → is_of k oid a ≡ false → (k ≡ a.adapter) × (oid ≡ a.oid) → ⊥
not_whose k oid a other same =
    true≢false (sym (and_from (a.adapter == k) (same_bytes a.oid oid) (eq-eqb a.adapter k (sym same.0))
    (ap (same_bytes a.oid) same.1 ∙ same_self a.oid)) ∙ other)

module _ (ids ids' : BTreeMap ℕ Ids) (as' : List Activation) (indexed : IsIndexed ids as') where
  pub indexed_same : (k : ℕ) (oid : List ℕ) → IsAt k oid (numbers_of ids k oid) ids ids' → IsIndexed ids' as'
  indexed_same k oid is q id =
      elim (cases_both q k id oid) [
        | inl same ↦ subst (λ x. numbers_of ids' x id ≡ numbers_of ids x id) (sym same.0)
            (subst (λ y. numbers_of ids' k y ≡ numbers_of ids k y) (sym same.1) is.at)
        | inr apart ↦ is.others q id apart
      ] ∙ indexed q id
    where
      cases_both : (q k : ℕ) (id oid : List ℕ) → ((q ≡ k) × (id ≡ oid)) ⊎ ((q ≡ k) × (id ≡ oid) → ⊥)
      cases_both q k id oid =
          elim (cases_Bool (q == k)) [
            | inr other ↦ inr (λ same. true≢false (sym (eq-eqb q k same.0) ∙ other))
            | inl one ↦ elim (cases_Bool (same_bytes id oid)) [
              | inl same ↦ inl (eqb-true q k one, bytes_same id oid same)
              | inr other ↦ inr (λ same. true≢false (sym (ap (same_bytes id) (sym same.1) ∙ same_self id) ∙ other))
            ]
          ]

  pub indexed_more : (a : Activation) (n : ℕ) → a.number ≡ n → IsAt a.adapter a.oid (numbers_of ids a.adapter a.oid ++ n ∷ []) ids ids'
      → IsIndexed ids' (as' ++ a ∷ [])
  indexed_more a n its is k oid =
      elim (cases_Bool (is_of k oid a)) [
        | inl of ↦ (let same = whose k oid a of in
            subst (λ x. numbers_of ids' x oid ≡ numbers_of ids x oid ++ n ∷ []) (sym same.0)
            (subst (λ y. numbers_of ids' a.adapter y ≡ numbers_of ids a.adapter y ++ n ∷ []) (sym same.1) is.at)
            ∙ ap₂ (λ ns m. ns ++ m ∷ []) (indexed k oid) (sym its)
            ∙ sym (map-append (λ b. b.number) (filter (is_of k oid) as') (a ∷ []))
            ∙ ap (λ bs. map (λ b. b.number) (filter (is_of k oid) as' ++ bs)) (sym (cond-true (is_of k oid a) (a ∷ []) [] of))
            ∙ ap (map (λ b. b.number)) (sym (filter-append (is_of k oid) as' (a ∷ []))))
        | inr other ↦ is.others k oid (not_whose k oid a other) ∙ indexed k oid
            ∙ ap (map (λ b. b.number))
            (sym (append-nil (filter (is_of k oid) as')) ∙ ap (λ bs. filter (is_of k oid) as' ++ bs) (sym (cond-false (is_of k oid a) (a ∷ []) [] other))
            ∙ sym (filter-append (is_of k oid) as' (a ∷ [])))
      ]

-- no activation of these has the number
abbrev pub Others : ℕ → List Activation → Type 0
Others n as' = (b : Activation) → In b as' → (b.number == n) ≡ false

without_others : (n : ℕ) (as' : List Activation) → Others n as' → filter (λ m. not (m == n)) (map (λ a. a.number) as') ≡ map (λ a. a.number) as'
without_others n [] others = refl
without_others n (b ∷ as') others =
    cond-true (not (b.number == n)) (b.number ∷ filter (λ m. not (m == n)) (map (λ a. a.number) as')) (filter (λ m. not (m == n)) (map (λ a. a.number) as'))
    (ap not (others b (inl refl)))
    ∙ ap (λ ns. b.number ∷ ns) (without_others n as' (λ x there. others x (inr there)))

-- without the activation of a number, of those that pass a test
without_one : (n : ℕ) (a : Activation) (test : Activation → Bool) (before after : List Activation) → a.number ≡ n → Others n before → Others n after
    → filter (λ m. not (m == n)) (map (λ b. b.number) (filter test (before ++ a ∷ after))) ≡ map (λ b. b.number) (filter test (before ++ after))
without_one n a test [] after its _ others =
    elim (test a) as (λ t. filter (λ m. not (m == n)) (map (λ b. b.number) (cond t (a ∷ filter test after) (filter test after)))
    ≡ map (λ b. b.number) (filter test after)) [
      | true ↦ cond-false (not (a.number == n)) (a.number ∷ filter (λ m. not (m == n)) (map (λ b. b.number) (filter test after)))
          (filter (λ m. not (m == n)) (map (λ b. b.number) (filter test after))) (ap not (eq-eqb a.number n its))
          ∙ without_others n (filter test after) (λ b there. others b (in_kept test b after there).0)
      | false ↦ without_others n (filter test after) (λ b there. others b (in_kept test b after there).0)
    ]
without_one n a test (b ∷ before) after its first others =
    (let rest = without_one n a test before after its (λ x there. first x (inr there)) others in
    elim (test b) as (λ t. filter (λ m. not (m == n))
    (map (λ x. x.number) (cond t (b ∷ filter test (before ++ a ∷ after)) (filter test (before ++ a ∷ after))))
    ≡ map (λ x. x.number) (cond t (b ∷ filter test (before ++ after)) (filter test (before ++ after)))) [
      | true ↦ cond-true (not (b.number == n)) (b.number ∷ filter (λ m. not (m == n)) (map (λ x. x.number) (filter test (before ++ a ∷ after))))
          (filter (λ m. not (m == n)) (map (λ x. x.number) (filter test (before ++ a ∷ after)))) (ap not (first b (inl refl)))
          ∙ ap (λ ns. b.number ∷ ns) rest
      | false ↦ rest
    ])

-- one that fails the test makes no difference
passed_over : (a : Activation) (test : Activation → Bool) (before after : List Activation) → test a ≡ false
    → filter test (before ++ a ∷ after) ≡ filter test (before ++ after)
passed_over a test before after fails =
    filter-append test before (a ∷ after)
    ∙ ap (λ bs. filter test before ++ bs) (cond-false (test a) (a ∷ filter test after) (filter test after) fails)
    ∙ sym (filter-append test before after)

pub indexed_less : (ids ids' : BTreeMap ℕ Ids) (a : Activation) (before after : List Activation) → Others a.number before → Others a.number after
    → IsIndexed ids (before ++ a ∷ after) → IsAt a.adapter a.oid (filter (λ m. not (m == a.number)) (numbers_of ids a.adapter a.oid)) ids ids'
    → IsIndexed ids' (before ++ after)
indexed_less ids ids' a before after first last indexed is k oid =
    elim (cases_Bool (is_of k oid a)) [
      | inl of ↦ (let same = whose k oid a of in
          subst (λ x. numbers_of ids' x oid ≡ filter (λ m. not (m == a.number)) (numbers_of ids x oid)) (sym same.0)
          (subst (λ y. numbers_of ids' a.adapter y ≡ filter (λ m. not (m == a.number)) (numbers_of ids a.adapter y)) (sym same.1) is.at)
          ∙ ap (filter (λ m. not (m == a.number))) (indexed k oid) ∙ without_one a.number a (is_of k oid) before after refl first last)
      | inr other ↦ is.others k oid (not_whose k oid a other) ∙ indexed k oid
          ∙ ap (map (λ b. b.number)) (passed_over a (is_of k oid) before after other)
    ]

-- ---- looked up

-- behind a row no activation has its number
pub behind_differs : (k : ℕ) (rows : List (ℕ × Activation)) → IsKeyed rows → AllByRecursion (λ y. nat_cmp k y ≡ Less) (keys_of rows) → (a : Activation)
    → In a (values_of rows) → (a.number == k) ≡ false
behind_differs k [] keyed past a there = absurd there
behind_differs k (row ∷ rows) keyed past a (inl same) = apart k row.0 a.number past.0 (ap (λ (b : Activation). b.number) same ∙ keyed.0)
behind_differs k (row ∷ rows) keyed past a (inr there) = behind_differs k rows keyed.1 past.1 a there

-- a row is found by the number of its activation
pub row_of : (rows : List (ℕ × Activation)) → IsKeyed rows → IsStrictlySortedBy nat_cmp (keys_of rows) → (a : Activation) → In a (values_of rows)
    → lookup (is_at (nat_cmp a.number)) rows ≡ Some a
row_of [] keyed ordered a there = absurd there
row_of (row ∷ rows) keyed ordered a (inl same) =
    cond-true (is_at (nat_cmp a.number) row.0) (Some row.1) (lookup (is_at (nat_cmp a.number)) rows)
    (at_is a.number row.0 ∙ eq-eqb row.0 a.number (sym keyed.0 ∙ ap (λ (b : Activation). b.number) (sym same)))
    ∙ ap (λ b. Some b) (sym same)
row_of (row ∷ rows) keyed ordered a (inr there) =
    cond-false (is_at (nat_cmp a.number) row.0) (Some row.1) (lookup (is_at (nat_cmp a.number)) rows)
    (at_is a.number row.0 ∙ false_from_ne_true (row.0 == a.number)
    (λ same. true≢false (sym (eq-eqb a.number row.0 (sym (eqb-true row.0 a.number same)))
    ∙ behind_differs row.0 rows keyed.1 (sorted_head nat_cmp row.0 (keys_of rows) ordered) a there)))
    ∙ row_of rows keyed.1 (sorted_tail nat_cmp row.0 (keys_of rows) ordered) a there

pub number_alone : (rows : List (ℕ × Activation)) → IsKeyed rows → IsStrictlySortedBy nat_cmp (keys_of rows) → (a b : Activation) → In a (values_of rows)
    → In b (values_of rows) → a.number ≡ b.number → a ≡ b
number_alone rows keyed ordered a b a_in b_in same =
    (let found : Some a ≡ Some b = sym (row_of rows keyed ordered a a_in) ∙ ap (λ n. lookup (is_at (nat_cmp n)) rows) same
    ∙ row_of rows keyed ordered b b_in in cc)

-- the number of an activation is that of no other
pub values_apart : (rows : List (ℕ × Activation)) → IsKeyed rows → IsStrictlySortedBy nat_cmp (keys_of rows) → (before after : List Activation) (a : Activation)
    → values_of rows ≡ before ++ a ∷ after → Others a.number before × Others a.number after
values_apart [] keyed ordered [] after a is = absurd (let e : [] ≡ a ∷ after = is in cc)
values_apart [] keyed ordered (b ∷ before) after a is = absurd (let e : [] ≡ b ∷ before ++ a ∷ after = is in cc)
values_apart (row ∷ rows) keyed ordered [] after a is =
    (let first : row.1 ≡ a = (let e : row.1 ∷ values_of rows ≡ a ∷ after = is in cc) in
    let rest : values_of rows ≡ after = (let e : row.1 ∷ values_of rows ≡ a ∷ after = is in cc) in (
      (λ b none. absurd none),
      (λ b there. subst (λ n. (b.number == n) ≡ false) (sym keyed.0 ∙ ap (λ (x : Activation). x.number) first)
          (behind_differs row.0 rows keyed.1 (sorted_head nat_cmp row.0 (keys_of rows) ordered) b (subst (In b) (sym rest) there))),
    ))
values_apart (row ∷ rows) keyed ordered (b ∷ before) after a is =
    (let first : row.1 ≡ b = (let e : row.1 ∷ values_of rows ≡ b ∷ before ++ a ∷ after = is in cc) in
    let rest : values_of rows ≡ before ++ a ∷ after = (let e : row.1 ∷ values_of rows ≡ b ∷ before ++ a ∷ after = is in cc) in
    let later = values_apart rows keyed.1 (sorted_tail nat_cmp row.0 (keys_of rows) ordered) before after a rest in
    let differs : (a.number == row.0) ≡ false = behind_differs row.0 rows keyed.1 (sorted_head nat_cmp row.0 (keys_of rows) ordered) a
    (subst (In a) (sym rest) (middle before)) in (
      (λ x there. elim there [
        | inl same ↦ false_from_ne_true (x.number == a.number) (λ hit. true≢false
            (sym (eq-eqb a.number row.0 (sym (eqb-true x.number a.number hit) ∙ ap (λ (y : Activation). y.number) (same ∙ sym first) ∙ keyed.0)) ∙ differs))
        | inr deeper ↦ later.0 x deeper
      ]),
      later.1,
    ))
  where
    middle : (before : List Activation) → In a (before ++ a ∷ after)
    middle [] = inl refl
    middle (x ∷ xs) = inr (middle xs)

all_found : (look : ℕ → Option Activation) (as' : List Activation) → ((a : Activation) → In a as' → look a.number ≡ Some a)
    → filter_map look (map (λ a. a.number) as') ≡ as'
all_found look [] found = refl
all_found look (a ∷ as') found =
    ap (λ o. cons_option o (filter_map look (map (λ b. b.number) as'))) (found a (inl refl))
    ∙ ap (λ bs. a ∷ bs) (all_found look as' (λ b there. found b (inr there)))

find_both : (q p : Activation → Bool) (as' : List Activation) → find p (filter q as') ≡ find (λ a. q a && p a) as'
find_both q p [] = refl
find_both q p (a ∷ as') =
    elim (q a) as (λ t. find p (cond t (a ∷ filter q as') (filter q as')) ≡ cond (t && p a) (Some a) (find (λ b. q b && p b) as'))
    [ true ↦ ap (λ o. cond (p a) (Some a) o) (find_both q p as') | false ↦ find_both q p as' ]

-- the first of an id that passes a test
pub first_of : (ids : BTreeMap ℕ Ids) (rows : List (ℕ × Activation)) → IsKeyed rows → IsStrictlySortedBy nat_cmp (keys_of rows) → IsIndexed ids (values_of rows)
    → (k : ℕ) (oid : List ℕ) (p : Activation → Bool)
    → find p (filter_map (λ n. lookup (is_at (nat_cmp n)) rows) (numbers_of ids k oid)) ≡ find (λ a. is_of k oid a && p a) (values_of rows)
first_of ids rows keyed ordered indexed k oid p =
    ap (λ ns. find p (filter_map (λ n. lookup (is_at (nat_cmp n)) rows) ns)) (indexed k oid)
    ∙ ap (find p) (all_found (λ n. lookup (is_at (nat_cmp n)) rows) (filter (is_of k oid) (values_of rows))
    (λ a there. row_of rows keyed ordered a (in_kept (is_of k oid) a (values_of rows) there).0))
    ∙ find_both (is_of k oid) p (values_of rows)

-- ---- those that are over are taken out of the index, from the first on

-- the index has what is left: of those up to here those that aren't over, and the rest
pub record ForgetsUpTo (c : Config) (ids : BTreeMap ℕ Ids) (all rest : List Activation) : Type 0 where
  pub done : List Activation
  pub split : all ≡ done ++ rest
  pub indexed : IsIndexed ids (live c done ++ rest)

pub forgets_none : (c : Config) (ids : BTreeMap ℕ Ids) (all : List Activation) → IsIndexed ids all → ForgetsUpTo c ids all all
forgets_none c ids all indexed = record { done = []; split = refl; indexed = indexed }

module _ (c : Config) (ids : BTreeMap ℕ Ids) (all rest : List Activation) (a : Activation) (so_far : ForgetsUpTo c ids all (a ∷ rest)) where
  split_next : all ≡ (so_far.done ++ a ∷ []) ++ rest
  split_next = so_far.split ∙ sym (append_assoc so_far.done (a ∷ []) rest)

  pub forgets_more : (ids' : BTreeMap ℕ Ids) → is_over c a ≡ true → Others a.number so_far.done → Others a.number rest
      → IsAt a.adapter a.oid (filter (λ m. not (m == a.number)) (numbers_of ids a.adapter a.oid)) ids ids' → ForgetsUpTo c ids' all rest
  forgets_more ids' over before after is =
      record {
        done = so_far.done ++ a ∷ [];
        split = split_next;
        indexed = subst (λ as'. IsIndexed ids' (as' ++ rest))
            (sym (filter-append (is_live c) so_far.done (a ∷ [])
            ∙ ap (λ bs. live c so_far.done ++ bs) (cond-false (is_live c a) (a ∷ []) [] (ap not over)) ∙ append-nil (live c so_far.done)))
            (indexed_less ids ids' a (live c so_far.done) rest (λ b there. before b (in_kept (is_live c) b so_far.done there).0) after so_far.indexed is);
      }

  pub keeps_more : is_over c a ≡ false → ForgetsUpTo c ids all rest
  keeps_more lives =
      record {
        done = so_far.done ++ a ∷ [];
        split = split_next;
        indexed = subst (IsIndexed ids)
            (sym (append_assoc (live c so_far.done) (a ∷ []) rest)
            ∙ ap (λ as'. as' ++ rest)
            (sym (filter-append (is_live c) so_far.done (a ∷ [])
            ∙ ap (λ bs. live c so_far.done ++ bs) (cond-true (is_live c a) (a ∷ []) [] (ap not lives)))))
            so_far.indexed;
      }

pub forgets_all : (c : Config) (ids : BTreeMap ℕ Ids) (all : List Activation) → ForgetsUpTo c ids all [] → IsIndexed ids (live c all)
forgets_all c ids all so_far =
    subst (λ as'. IsIndexed ids (live c as')) (sym (so_far.split ∙ append-nil so_far.done))
    (subst (IsIndexed ids) (append-nil (live c so_far.done)) so_far.indexed)

-- those that were begun before have lesser numbers
pub earlier_less : (n : ℕ) (rows : List (ℕ × Activation)) → IsKeyed rows → ((k : ℕ) → In k (keys_of rows) → k < n) → (a : Activation)
    → In a (values_of rows) → a.number < n
earlier_less n [] keyed earlier a there = absurd there
earlier_less n (row ∷ rows) keyed earlier a (inl same) =
    (let low = earlier row.0 (inl refl) in
    let its : a.number ≡ row.0 = ap (λ (x : Activation). x.number) same ∙ keyed.0 in omega (arith, low, its))
earlier_less n (row ∷ rows) keyed earlier a (inr there) = earlier_less n rows keyed.1 (λ k is. earlier k (inr is)) a there

-- and so other ones
pub earlier_others : (n : ℕ) (rows : List (ℕ × Activation)) → IsKeyed rows → ((k : ℕ) → In k (keys_of rows) → k < n) → Others n (values_of rows)
earlier_others n rows keyed earlier b there =
    false_from_ne_true (b.number == n) (λ hit. (let low = earlier_less n rows keyed earlier b there in
    let e : b.number ≡ n = eqb-true b.number n hit in omega (arith, low, e)))

-- what was added and taken away again
pub indexed_back : (ids mid ids' : BTreeMap ℕ Ids) (as' : List Activation) (a : Activation) → Others a.number as' → IsIndexed ids as'
    → IsAt a.adapter a.oid (numbers_of ids a.adapter a.oid ++ a.number ∷ []) ids mid
    → IsAt a.adapter a.oid (filter (λ m. not (m == a.number)) (numbers_of mid a.adapter a.oid)) mid ids' → IsIndexed ids' as'
indexed_back ids mid ids' as' a others indexed added taken =
    subst (IsIndexed ids') (append-nil as')
    (indexed_less mid ids' a as' [] others (λ b none. absurd none) (indexed_more ids mid as' indexed a a.number refl added) taken)
