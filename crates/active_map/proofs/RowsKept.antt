-- The rows of a table, and what a change of one of them or of each leaves.
use Rattle.std.specs.Prelude.{◌≡◌, ℕ, ◌+◌, ◌<◌, ◌≤◌, Bool, true, false, not, ◌||◌, ◌==◌, if◌then◌else◌, cond, List, [], ◌∷◌, ◌++◌, map, filter, find, length, Some, None, refl}
use Rattle.std.specs.List.{AllByRecursion, list_any, sum_by}
use Rattle.std.specs.Option.{option_map, unwrap_or}
use Rattle.std.specs.List.Sorted.{IsStrictlySortedBy}
use Rattle.std.specs.BTreeMap.{is_at, insert_entry}
use Rattle.std.specs.Map.{keys_of, values_of, lookup, set_value}
use Rattle.std.specs.Ordering.{nat_cmp, is_eq, match_ordering}
use Rattle.std.specs.declared.cmp.Ordering.TheVariants.{Less, Greater}
use Rattle.std.proofs.Common.{inl, inr, sym, ap, ap₂, subst, ◌∙◌, arith}
use Rattle.std.proofs.lemmas.Bool.{cond_both, cond-true, cond-false, eqb-true, eq-eqb, ne_eqb, not-true}
use Rattle.std.proofs.lemmas.Grind.{common_steps}
use Rattle.std.proofs.lemmas.List.{length-append, length-map}
use Rattle.std.proofs.lemmas.List.Recursion.{is_sum_by}
use Rattle.std.proofs.lemmas.List.Sums.{sum_by_push}
use Rattle.std.proofs.lemmas.Map.Entries.{sum_by-set_value, sum_by-remove_entry}
use Rattle.std.proofs.lemmas.Map.Keys.{sorted_head, sorted_tail}
use Rattle.history_standing.specs.declared.activation.Activation.{Activation}
use Rattle.history_standing.specs.Changes.{at_number}
use Rattle.history_standing.specs.Trees.{In}
use Rattle.history_standing.proofs.Members.{in_either}
use Rattle.active_map.specs.Tables.{Table, is_moving, weight, with_each, IsKeyed, IsTable, Keeps}

-- ---- a change that leaves what an activation is found by

pub keeps_where : (test : Activation → Bool) (f : Activation → Activation) → Keeps f → Keeps (λ a. if test a then f a else a)
keeps_where test f keeps =
    record {
      number = λ a. cond_both (test a) (f a) a (λ (b : Activation). b.number ≡ a.number) (λ _. keeps.number a) (λ _. refl);
      adapter = λ a. cond_both (test a) (f a) a (λ (b : Activation). b.adapter ≡ a.adapter) (λ _. keeps.adapter a) (λ _. refl);
      oid = λ a. cond_both (test a) (f a) a (λ (b : Activation). b.oid ≡ a.oid) (λ _. keeps.oid a) (λ _. refl);
    }

-- ---- a look-up by a number

pub at_is : (n k : ℕ) → is_at (nat_cmp n) k ≡ (k == n)
at_is n k = grind (arith, common_steps)

pub apart : (n k m : ℕ) → nat_cmp n k ≡ Less → m ≡ k → (m == n) ≡ false
apart n k m less is = ap (λ x. x == n) is ∙ sym (at_is n k) ∙ ap is_eq less

pub row_found : (n : ℕ) (rows : List (ℕ × Activation)) → IsKeyed rows → lookup (is_at (nat_cmp n)) rows ≡ find (λ a. a.number == n) (values_of rows)
row_found n [] keyed = refl
row_found n (row ∷ rows) keyed =
    ap₂ (λ b o. cond b (Some row.1) o) (at_is n row.0 ∙ ap (λ k. k == n) (sym keyed.0)) (row_found n rows keyed.1)

pub number_found : (n : ℕ) (rows : List (ℕ × Activation)) → IsKeyed rows → (a : Activation) → lookup (is_at (nat_cmp n)) rows ≡ Some a → a.number ≡ n
number_found n [] keyed a is = absurd (let e : None ≡ Some a = is in cc)
number_found n (row ∷ rows) keyed a is =
    elim (is_at (nat_cmp n) row.0) as (λ t. is_at (nat_cmp n) row.0 ≡ t → cond t (Some row.1) (lookup (is_at (nat_cmp n)) rows) ≡ Some a → a.number ≡ n) [
      | true ↦ λ hit here. (let whose : row.1 ≡ a = (let e : Some row.1 ≡ Some a = here in cc) in
          ap (λ (x : Activation). x.number) (sym whose) ∙ keyed.0 ∙ eqb-true row.0 n (sym (at_is n row.0) ∙ hit))
      | false ↦ λ miss there. number_found n rows keyed.1 a there
    ] refl is

-- ---- one row changed

untouched : (n : ℕ) (f : Activation → Activation) (rows : List (ℕ × Activation)) → IsKeyed rows → AllByRecursion (λ y. nat_cmp n y ≡ Less) (keys_of rows)
    → map (at_number n f) (values_of rows) ≡ values_of rows
untouched n f [] keyed past = refl
untouched n f (row ∷ rows) keyed past =
    ap₂ (λ a as'. a ∷ as') (cond-false (row.1.number == n) (f row.1) row.1 (apart n row.0 row.1.number past.0 keyed.0)) (untouched n f rows keyed.1 past.1)

pub row_absent : (n : ℕ) (f : Activation → Activation) (rows : List (ℕ × Activation)) → IsKeyed rows → lookup (is_at (nat_cmp n)) rows ≡ None
    → map (at_number n f) (values_of rows) ≡ values_of rows
row_absent n f [] keyed none = refl
row_absent n f (row ∷ rows) keyed none =
    elim (is_at (nat_cmp n) row.0) as (λ t. is_at (nat_cmp n) row.0 ≡ t → cond t (Some row.1) (lookup (is_at (nat_cmp n)) rows) ≡ None
    → map (at_number n f) (row.1 ∷ values_of rows) ≡ row.1 ∷ values_of rows) [
      | true ↦ λ hit here. absurd (let e : Some row.1 ≡ None = here in cc)
      | false ↦ λ miss there. ap₂ (λ a as'. a ∷ as')
          (cond-false (row.1.number == n) (f row.1) row.1 (ap (λ k. k == n) keyed.0 ∙ sym (at_is n row.0) ∙ miss)) (row_absent n f rows keyed.1 there)
    ] refl none

pub row_set : (n : ℕ) (f : Activation → Activation) (rows : List (ℕ × Activation)) → IsKeyed rows → IsStrictlySortedBy nat_cmp (keys_of rows)
    → (a b : Activation)
    → lookup (is_at (nat_cmp n)) rows ≡ Some a → b ≡ f a
    → values_of (set_value (is_at (nat_cmp n)) rows b) ≡ map (at_number n f) (values_of rows)
row_set n f [] keyed ordered a b is new = absurd (let e : None ≡ Some a = is in cc)
row_set n f (row ∷ rows) keyed ordered a b is new =
    elim (is_at (nat_cmp n) row.0) as (λ t. is_at (nat_cmp n) row.0 ≡ t → cond t (Some row.1) (lookup (is_at (nat_cmp n)) rows) ≡ Some a
    → values_of (cond t ((row.0, b) ∷ rows) (row ∷ set_value (is_at (nat_cmp n)) rows b)) ≡ map (at_number n f) (row.1 ∷ values_of rows)) [
      | true ↦ λ hit here. (let whose : row.1 ≡ a = (let e : Some row.1 ≡ Some a = here in cc) in
          let same : row.0 ≡ n = eqb-true row.0 n (sym (at_is n row.0) ∙ hit) in
          ap₂ (λ x xs. x ∷ xs)
          (new ∙ ap f (sym whose) ∙ sym (cond-true (row.1.number == n) (f row.1) row.1 (ap (λ k. k == n) keyed.0 ∙ sym (at_is n row.0) ∙ hit)))
          (sym (untouched n f rows keyed.1
          (subst (λ k. AllByRecursion (λ y. nat_cmp k y ≡ Less) (keys_of rows)) same (sorted_head nat_cmp row.0 (keys_of rows) ordered)))))
      | false ↦ λ miss there. ap₂ (λ x xs. x ∷ xs)
          (sym (cond-false (row.1.number == n) (f row.1) row.1 (ap (λ k. k == n) keyed.0 ∙ sym (at_is n row.0) ∙ miss)))
          (row_set n f rows keyed.1 (sorted_tail nat_cmp row.0 (keys_of rows) ordered) a b there new)
    ] refl is

keyed_set : (n : ℕ) (rows : List (ℕ × Activation)) → IsKeyed rows → (b : Activation) → b.number ≡ n → IsKeyed (set_value (is_at (nat_cmp n)) rows b)
keyed_set n [] keyed b is = tt
keyed_set n (row ∷ rows) keyed b is =
    cond_both (is_at (nat_cmp n) row.0) ((row.0, b) ∷ rows) (row ∷ set_value (is_at (nat_cmp n)) rows b) IsKeyed
    (λ hit. (is ∙ sym (eqb-true row.0 n (sym (at_is n row.0) ∙ hit)), keyed.1)) (λ miss. (keyed.0, keyed_set n rows keyed.1 b is))

-- ---- how many move

weighed : (as' : List Activation) → length (filter is_moving as') ≡ sum_by weight as'
weighed = is_sum_by (λ as'. length (filter is_moving as')) weight refl
    (λ a as'. elim (is_moving a) as (λ t. length (cond t (a ∷ filter is_moving as') (filter is_moving as')) ≡ cond t 1 0 + length (filter is_moving as')) [
      | true ↦ (let e : length (a ∷ filter is_moving as') ≡ 1 + length (filter is_moving as') = omega arith in e)
      | false ↦ (let e : length (filter is_moving as') ≡ 0 + length (filter is_moving as') = omega arith in e)
    ])

pub none_moving : (as' : List Activation) → (length (filter is_moving as') == 0) ≡ not (list_any is_moving as')
none_moving [] = refl
none_moving (a ∷ as') =
    elim (is_moving a) as (λ t. (length (cond t (a ∷ filter is_moving as') (filter is_moving as')) == 0) ≡ not (t || list_any is_moving as'))
    [ true ↦ ne_eqb (length (a ∷ filter is_moving as')) 0 (λ e. omega (arith, e)) | false ↦ none_moving as' ]

pub weight_within : (forgotten moving n : ℕ) (rows : List (ℕ × Activation)) → IsTable forgotten moving rows → (a : Activation)
    → lookup (is_at (nat_cmp n)) rows ≡ Some a → weight a ≤ moving
weight_within forgotten moving n rows table a is =
    (let sum = sum_by-set_value weight (is_at (nat_cmp n)) rows a a is in
    let total = table.counted ∙ weighed (values_of rows) in
    let part = within rows is in omega (arith, part, total))
  where
    within : (rows : List (ℕ × Activation)) → lookup (is_at (nat_cmp n)) rows ≡ Some a → weight a ≤ sum_by weight (values_of rows)
    within rows is = (let sum = sum_by-remove_entry weight (is_at (nat_cmp n)) rows in
        let its = ap (λ o. unwrap_or (option_map weight o) 0) is in omega (arith, sum, its))

fewer : (p : Activation → Bool) (as' : List Activation) → length (filter p as') ≤ length as'
fewer p [] = omega arith
fewer p (a ∷ as') =
    cond_both (p a) (a ∷ filter p as') (filter p as') (λ bs. length bs ≤ length (a ∷ as'))
    (λ _. (let rest = fewer p as' in omega (arith, rest))) (λ _. (let rest = fewer p as' in omega (arith, rest)))

pub weight_few : (a : Activation) → weight a ≤ 1
weight_few a = cond_both (is_moving a) 1 0 (λ m. m ≤ 1) (λ _. omega arith) (λ _. omega arith)

pub moving_few : (forgotten moving : ℕ) (rows : List (ℕ × Activation)) → IsTable forgotten moving rows → moving ≤ 4294967296
moving_few forgotten moving rows table =
    (let some = fewer is_moving (values_of rows) in let long : length (values_of rows) ≡ length rows = length-map rows _ in let few = table.few in
    let count = table.counted in omega (arith, some, long, few, count))

pub still_rows : (forgotten moving : ℕ) (rows : List (ℕ × Activation)) → IsTable forgotten moving rows → moving ≤ 0
    → list_any is_moving (values_of rows) ≡ false
still_rows forgotten moving rows table none =
    not-true (list_any is_moving (values_of rows))
    (sym (none_moving (values_of rows)) ∙ eq-eqb (length (filter is_moving (values_of rows))) 0 (let count = table.counted in omega (arith, none, count)))

-- ---- the whole table

abbrev pub tabled : ℕ → List Activation → Table
tabled forgotten kept = record { forgotten = forgotten; kept = kept }

pub table_set : (forgotten moving n : ℕ) (rows rows' : List (ℕ × Activation)) (f : Activation → Activation) (a b : Activation) → IsTable forgotten moving rows
    → lookup (is_at (nat_cmp n)) rows ≡ Some a → rows' ≡ set_value (is_at (nat_cmp n)) rows b → keys_of rows' ≡ keys_of rows → b ≡ f a
    → Keeps f → (now : ℕ) → now + weight a ≡ moving + weight b → IsTable forgotten now rows'
table_set forgotten moving n rows rows' f a b table is set same new keeps now count =
    record {
      keyed = subst IsKeyed (sym set)
          (keyed_set n rows table.keyed b (ap (λ (x : Activation). x.number) new ∙ keeps.number a ∙ number_found n rows table.keyed a is));
      ordered = subst (IsStrictlySortedBy nat_cmp) (sym same) table.ordered;
      earlier = λ k there. subst (λ m. k < forgotten + m) (sym long) (table.earlier k (subst (In k) same there));
      few = subst (λ m. forgotten + m ≤ 4294967296) (sym long) table.few;
      counted = (let sum = sum_by-set_value weight (is_at (nat_cmp n)) rows a b is in
          let was = table.counted ∙ weighed (values_of rows) in
          let after = weighed (values_of rows') ∙ ap (λ es. sum_by weight (values_of es)) set in omega (arith, sum, was, after, count));
    }
  where
    long : length rows' ≡ length rows
    long = sym (length-map rows' _) ∙ ap length same ∙ length-map rows _

pub values_each : (f : Activation → Activation) (rows : List (ℕ × Activation)) → values_of (with_each f rows) ≡ map f (values_of rows)
values_each f [] = refl
values_each f (row ∷ rows) = ap (λ as'. f row.1 ∷ as') (values_each f rows)

keys_each : (f : Activation → Activation) (rows : List (ℕ × Activation)) → keys_of (with_each f rows) ≡ keys_of rows
keys_each f [] = refl
keys_each f (row ∷ rows) = ap (λ ks. row.0 ∷ ks) (keys_each f rows)

keyed_each : (f : Activation → Activation) → Keeps f → (rows : List (ℕ × Activation)) → IsKeyed rows → IsKeyed (with_each f rows)
keyed_each f keeps [] keyed = tt
keyed_each f keeps (row ∷ rows) keyed = (keeps.number row.1 ∙ keyed.0, keyed_each f keeps rows keyed.1)

pub table_each : (forgotten moving now : ℕ) (rows rows' : List (ℕ × Activation)) (f : Activation → Activation) → IsTable forgotten moving rows
    → rows' ≡ with_each f rows → Keeps f → now ≡ length (filter is_moving (values_of rows')) → IsTable forgotten now rows'
table_each forgotten moving now rows rows' f table is keeps count =
    record {
      keyed = subst IsKeyed (sym is) (keyed_each f keeps rows table.keyed);
      ordered = subst (IsStrictlySortedBy nat_cmp) (sym same) table.ordered;
      earlier = λ k there. subst (λ m. k < forgotten + m) (sym long) (table.earlier k (subst (In k) same there));
      few = subst (λ m. forgotten + m ≤ 4294967296) (sym long) table.few;
      counted = count;
    }
  where
    same : keys_of rows' ≡ keys_of rows
    same = ap keys_of is ∙ keys_each f rows

    long : length rows' ≡ length rows
    long = sym (length-map rows' _) ∙ ap length same ∙ length-map rows _

pub values_kept : (p : Activation → Bool) (rows : List (ℕ × Activation)) → values_of (filter (λ row. p row.1) rows) ≡ filter p (values_of rows)
values_kept p [] = refl
values_kept p (row ∷ rows) =
    elim (p row.1) as (λ t. values_of (cond t (row ∷ filter (λ r. p r.1) rows) (filter (λ r. p r.1) rows)) ≡ cond t (row.1 ∷ filter p
    (values_of rows)) (filter p (values_of rows)))
    [ true ↦ ap (λ as'. row.1 ∷ as') (values_kept p rows) | false ↦ values_kept p rows ]

keyed_kept : (p : ℕ × Activation → Bool) (rows : List (ℕ × Activation)) → IsKeyed rows → IsKeyed (filter p rows)
keyed_kept p [] keyed = tt
keyed_kept p (row ∷ rows) keyed =
    cond_both (p row) (row ∷ filter p rows) (filter p rows) IsKeyed (λ _. (keyed.0, keyed_kept p rows keyed.1)) (λ _. keyed_kept p rows keyed.1)

key_kept : (p : ℕ × Activation → Bool) (k : ℕ) (rows : List (ℕ × Activation)) → In k (keys_of (filter p rows)) → In k (keys_of rows)
key_kept p k [] = λ there. there
key_kept p k (row ∷ rows) =
    cond_both (p row) (row ∷ filter p rows) (filter p rows) (λ rs. In k (keys_of rs) → In k (keys_of (row ∷ rows)))
    (λ _ there. elim there [ inl same ↦ inl same | inr later ↦ inr (key_kept p k rows later) ]) (λ _ there. inr (key_kept p k rows there))

pub table_kept : (forgotten moving forgotten' now : ℕ) (rows rows' : List (ℕ × Activation)) (p : ℕ × Activation → Bool) → IsTable forgotten moving rows
    → rows' ≡ filter p rows → IsStrictlySortedBy nat_cmp (keys_of rows') → forgotten' + length rows' ≡ forgotten + length rows
    → now ≡ length (filter is_moving (values_of rows')) → IsTable forgotten' now rows'
table_kept forgotten moving forgotten' now rows rows' p table is ordered total count =
    record {
      keyed = subst IsKeyed (sym is) (keyed_kept p rows table.keyed);
      ordered = ordered;
      earlier = λ k there. subst (λ m. k < m) (sym total) (table.earlier k (key_kept p k rows (subst (λ rs. In k (keys_of rs)) is there)));
      few = subst (λ m. m ≤ 4294967296) (sym total) table.few;
      counted = count;
    }

-- ---- one row more

put_last : (n : ℕ) (a : Activation) (rows : List (ℕ × Activation)) → ((k : ℕ) → In k (keys_of rows) → k < n)
    → insert_entry nat_cmp rows n a ≡ rows ++ (n, a) ∷ []
put_last n a [] less = refl
put_last n a (row ∷ rows) less =
    ap (λ o. match_ordering o ((n, a) ∷ row ∷ rows) ((row.0, a) ∷ rows) (row ∷ insert_entry nat_cmp rows n a)) (above (less row.0 (inl refl)))
    ∙ ap (λ rs. row ∷ rs) (put_last n a rows (λ k there. less k (inr there)))
  where
    above : row.0 < n → nat_cmp n row.0 ≡ Greater
    above low = grind (arith, common_steps, low)

values_last : (n : ℕ) (a : Activation) (rows : List (ℕ × Activation)) → values_of (rows ++ (n, a) ∷ []) ≡ values_of rows ++ a ∷ []
values_last n a [] = refl
values_last n a (row ∷ rows) = ap (λ as'. row.1 ∷ as') (values_last n a rows)

keys_last : (n : ℕ) (a : Activation) (rows : List (ℕ × Activation)) → keys_of (rows ++ (n, a) ∷ []) ≡ keys_of rows ++ n ∷ []
keys_last n a [] = refl
keys_last n a (row ∷ rows) = ap (λ ks. row.0 ∷ ks) (keys_last n a rows)

keyed_last : (n : ℕ) (a : Activation) → a.number ≡ n → (rows : List (ℕ × Activation)) → IsKeyed rows → IsKeyed (rows ++ (n, a) ∷ [])
keyed_last n a is [] keyed = (is, tt)
keyed_last n a is (row ∷ rows) keyed = (keyed.0, keyed_last n a is rows keyed.1)

-- an activation that has the next number is put behind the others
module _ (forgotten moving n : ℕ) (a : Activation) (rows rows' : List (ℕ × Activation)) (table : IsTable forgotten moving rows)
    (next : n ≡ forgotten + length rows)
    (put : rows' ≡ insert_entry nat_cmp rows n a) where
  pushed : rows' ≡ rows ++ (n, a) ∷ []
  pushed = put ∙ put_last n a rows (λ k there. subst (λ m. k < m) (sym next) (table.earlier k there))

  pub values_pushed : values_of rows' ≡ values_of rows ++ a ∷ []
  values_pushed = ap values_of pushed ∙ values_last n a rows

  pub table_pushed : a.number ≡ n → n < 4294967296 → IsStrictlySortedBy nat_cmp (keys_of rows') → IsTable forgotten (moving + weight a) rows'
  table_pushed its few ordered =
      record {
        keyed = subst IsKeyed (sym pushed) (keyed_last n a its rows table.keyed);
        ordered = ordered;
        earlier = λ k there. elim (in_either k n (keys_of rows) (subst (In k) (ap keys_of pushed ∙ keys_last n a rows) there)) [
          | inl was ↦ (let low = table.earlier k was in omega (arith, low, long))
          | inr same ↦ (let e : k ≡ n = same in omega (arith, e, next, long))
        ];
        few = omega (arith, few, next, long);
        counted = ap (λ m. m + weight a) (table.counted ∙ weighed (values_of rows)) ∙ sym (sum_by_push weight (values_of rows) a)
            ∙ sym (ap (sum_by weight) values_pushed) ∙ sym (weighed (values_of rows'));
      }
    where
      long : length rows' ≡ length rows + 1
      long = ap length pushed ∙ length-append rows ((n, a) ∷ [])
