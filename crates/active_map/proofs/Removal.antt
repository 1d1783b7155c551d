-- The row of an activation that is over is taken out of a table.
use Rattle.std.specs.Prelude.{◌≡◌, ℕ, ◌+◌, suc, Bool, true, false, not, ◌&&◌, ◌==◌, cond, List, [], ◌∷◌, ◌++◌, filter, length, Some, None, refl}
use Rattle.std.specs.List.Sorted.{IsStrictlySortedBy}
use Rattle.std.specs.BTreeMap.{is_at}
use Rattle.std.specs.Map.{keys_of, values_of, lookup, remove_entry}
use Rattle.std.specs.Ordering.{nat_cmp}
use Rattle.std.proofs.Common.{inl, inr, sym, ap, ap₂, subst, ◌∙◌, arith}
use Rattle.std.proofs.lemmas.Bool.{cond-true, cond-false, eqb-true}
use Rattle.std.proofs.lemmas.Map.Keys.{sorted_head, sorted_tail}
use Rattle.history_standing.specs.declared.activation.Activation.{Activation}
use Rattle.history_standing.specs.Trees.{In}
use Rattle.active_map.specs.Tables.{IsKeyed}
use Rattle.active_map.proofs.IdsKept.{behind_differs}
use Rattle.active_map.proofs.RowsKept.{at_is}

-- it is the activation of this number, and it is over
abbrev pub is_spent : ℕ → (Activation → Bool) → Activation → Bool
is_spent n over a = (a.number == n) && over a

-- none of the others is
none_spent : (n : ℕ) (over : Activation → Bool) (rows : List (ℕ × Activation)) → ((a : Activation) → In a (values_of rows) → (a.number == n) ≡ false)
    → filter (λ row. not (is_spent n over row.1)) rows ≡ rows
none_spent n over [] others = refl
none_spent n over (row ∷ rows) others =
    cond-true (not (is_spent n over row.1)) (row ∷ filter (λ r. not (is_spent n over r.1)) rows) (filter (λ r. not (is_spent n over r.1)) rows)
    (ap (λ b. not (b && over row.1)) (others row.1 (inl refl)))
    ∙ ap (λ rs. row ∷ rs) (none_spent n over rows (λ a there. others a (inr there)))

-- so to take it out is to keep all that aren't
pub removed_is : (n : ℕ) (over : Activation → Bool) (rows : List (ℕ × Activation)) → IsKeyed rows → IsStrictlySortedBy nat_cmp (keys_of rows)
    → (a : Activation) → lookup (is_at (nat_cmp n)) rows ≡ Some a → over a ≡ true
    → remove_entry (is_at (nat_cmp n)) rows ≡ filter (λ row. not (is_spent n over row.1)) rows
removed_is n over [] keyed ordered a is spent = refl
removed_is n over (row ∷ rows) keyed ordered a is spent =
    elim (is_at (nat_cmp n) row.0) as (λ t. is_at (nat_cmp n) row.0 ≡ t → cond t (Some row.1) (lookup (is_at (nat_cmp n)) rows) ≡ Some a
    → cond t rows (row ∷ remove_entry (is_at (nat_cmp n)) rows) ≡ filter (λ r. not (is_spent n over r.1)) (row ∷ rows)) [
      | true ↦ (λ hit here. (let whose : row.1 ≡ a = (let e : Some row.1 ≡ Some a = here in cc) in
          let same : row.0 ≡ n = eqb-true row.0 n (sym (at_is n row.0) ∙ hit) in
          let its : (row.1.number == n) ≡ true = ap (λ k. k == n) keyed.0 ∙ sym (at_is n row.0) ∙ hit in
          sym (cond-false (not (is_spent n over row.1)) (row ∷ filter (λ r. not (is_spent n over r.1)) rows) (filter (λ r. not (is_spent n over r.1)) rows)
          (ap₂ (λ x y. not (x && y)) its (ap over whose ∙ spent))
          ∙ none_spent n over rows (λ b there. subst (λ k. (b.number == k) ≡ false) same
          (behind_differs row.0 rows keyed.1 (sorted_head nat_cmp row.0 (keys_of rows) ordered) b there)))))
      | false ↦ (λ miss there. (let other : (row.1.number == n) ≡ false = ap (λ k. k == n) keyed.0 ∙ sym (at_is n row.0) ∙ miss in
          ap (λ rs. row ∷ rs) (removed_is n over rows keyed.1 (sorted_tail nat_cmp row.0 (keys_of rows) ordered) a there spent)
          ∙ sym (cond-true (not (is_spent n over row.1)) (row ∷ filter (λ r. not (is_spent n over r.1)) rows) (filter (λ r. not (is_spent n over r.1)) rows)
          (ap (λ b. not (b && over row.1)) other))))
    ] refl is

-- where none has the number, none is
pub absent_is : (n : ℕ) (over : Activation → Bool) (rows : List (ℕ × Activation)) → IsKeyed rows → lookup (is_at (nat_cmp n)) rows ≡ None
    → filter (is_spent n over) (values_of rows) ≡ []
absent_is n over [] keyed none = refl
absent_is n over (row ∷ rows) keyed none =
    elim (is_at (nat_cmp n) row.0) as (λ t. is_at (nat_cmp n) row.0 ≡ t → cond t (Some row.1) (lookup (is_at (nat_cmp n)) rows) ≡ None
    → filter (is_spent n over) (row.1 ∷ values_of rows) ≡ []) [
      | true ↦ (λ hit here. absurd (let e : Some row.1 ≡ None = here in cc))
      | false ↦ (λ miss there. cond-false (is_spent n over row.1) (row.1 ∷ filter (is_spent n over) (values_of rows))
          (filter (is_spent n over) (values_of rows))
          (ap (λ b. b && over row.1) (ap (λ k. k == n) keyed.0 ∙ sym (at_is n row.0) ∙ miss)) ∙ absent_is n over rows keyed.1 there)
    ] refl none

-- before it, and behind it
pub record Split (vs ws : List Activation) (a : Activation) : Type 0 where
  pub before : List Activation
  pub after : List Activation
  pub whole : vs ≡ before ++ a ∷ after
  pub left : ws ≡ before ++ after

pub split_at : (n : ℕ) (rows : List (ℕ × Activation)) (a : Activation) → lookup (is_at (nat_cmp n)) rows ≡ Some a
    → Split (values_of rows) (values_of (remove_entry (is_at (nat_cmp n)) rows)) a
split_at n [] a is = absurd (let e : None ≡ Some a = is in cc)
split_at n (row ∷ rows) a is =
    elim (is_at (nat_cmp n) row.0) as (λ t. cond t (Some row.1) (lookup (is_at (nat_cmp n)) rows) ≡ Some a
    → Split (row.1 ∷ values_of rows) (values_of (cond t rows (row ∷ remove_entry (is_at (nat_cmp n)) rows))) a) [
      | true ↦ (λ here. (let whose : row.1 ≡ a = (let e : Some row.1 ≡ Some a = here in cc) in
          record { before = []; after = values_of rows; whole = ap (λ x. x ∷ values_of rows) whose; left = refl }))
      | false ↦ (λ there. (let rest = split_at n rows a there in
          record {
            before = row.1 ∷ rest.before;
            after = rest.after;
            whole = ap (λ xs. row.1 ∷ xs) rest.whole;
            left = ap (λ xs. row.1 ∷ xs) rest.left;
          }))
    ] is

-- one that isn't over makes none spent
pub living_is : (n : ℕ) (over : Activation → Bool) (rows : List (ℕ × Activation)) → IsKeyed rows → IsStrictlySortedBy nat_cmp (keys_of rows)
    → (a : Activation) → lookup (is_at (nat_cmp n)) rows ≡ Some a → over a ≡ false → filter (is_spent n over) (values_of rows) ≡ []
living_is n over [] keyed ordered a is living = refl
living_is n over (row ∷ rows) keyed ordered a is living =
    elim (is_at (nat_cmp n) row.0) as (λ t. is_at (nat_cmp n) row.0 ≡ t → cond t (Some row.1) (lookup (is_at (nat_cmp n)) rows) ≡ Some a
    → filter (is_spent n over) (row.1 ∷ values_of rows) ≡ []) [
      | true ↦ (λ hit here. (let whose : row.1 ≡ a = (let e : Some row.1 ≡ Some a = here in cc) in
          let same : row.0 ≡ n = eqb-true row.0 n (sym (at_is n row.0) ∙ hit) in
          cond-false (is_spent n over row.1) (row.1 ∷ filter (is_spent n over) (values_of rows)) (filter (is_spent n over) (values_of rows))
          (ap (λ b. (row.1.number == n) && b) (ap over whose ∙ living) ∙ never (row.1.number == n))
          ∙ others_live (values_of rows) (λ b there. subst (λ k. (b.number == k) ≡ false) same
          (behind_differs row.0 rows keyed.1 (sorted_head nat_cmp row.0 (keys_of rows) ordered) b there))))
      | false ↦ (λ miss there. cond-false (is_spent n over row.1) (row.1 ∷ filter (is_spent n over) (values_of rows))
          (filter (is_spent n over) (values_of rows))
          (ap (λ b. b && over row.1) (ap (λ k. k == n) keyed.0 ∙ sym (at_is n row.0) ∙ miss))
          ∙ living_is n over rows keyed.1 (sorted_tail nat_cmp row.0 (keys_of rows) ordered) a there living)
    ] refl is
  where
    never : (b : Bool) → (b && false) ≡ false
    never true = refl
    never false = refl

    others_live : (as' : List Activation) → ((b : Activation) → In b as' → (b.number == n) ≡ false) → filter (is_spent n over) as' ≡ []
    others_live [] others = refl
    others_live (b ∷ as') others =
        cond-false (is_spent n over b) (b ∷ filter (is_spent n over) as') (filter (is_spent n over) as') (ap (λ t. t && over b) (others b (inl refl)))
        ∙ others_live as' (λ x there. others x (inr there))

-- where none passes, all that don't are all
pub none_left : (p : Activation → Bool) (as' : List Activation) → filter p as' ≡ [] → as' ≡ filter (λ a. not (p a)) as'
none_left p [] none = refl
none_left p (a ∷ as') none =
    elim (p a) as (λ t. cond t (a ∷ filter p as') (filter p as') ≡ [] → a ∷ as' ≡ cond (not t) (a ∷ filter (λ b. not (p b)) as')
    (filter (λ b. not (p b)) as')) [
      | true ↦ (λ some. absurd (let e : a ∷ filter p as' ≡ [] = some in cc))
      | false ↦ (λ rest. ap (λ bs. a ∷ bs) (none_left p as' rest))
    ] none

-- one in the middle counts for itself
pub counted_without : (p : Activation → Bool) (before after : List Activation) (a : Activation)
    → length (filter p (before ++ a ∷ after)) ≡ cond (p a) 1 0 + length (filter p (before ++ after))
counted_without p [] after a =
    elim (p a) as (λ t. length (cond t (a ∷ filter p after) (filter p after)) ≡ cond t 1 0 + length (filter p after)) [
      | true ↦ (let e : length (a ∷ filter p after) ≡ 1 + length (filter p after) = omega arith in e)
      | false ↦ (let e : length (filter p after) ≡ 0 + length (filter p after) = omega arith in e)
    ]
counted_without p (b ∷ before) after a =
    (let rest = counted_without p before after a in
    elim (p b) as (λ t. length (cond t (b ∷ filter p (before ++ a ∷ after)) (filter p (before ++ a ∷ after)))
    ≡ cond (p a) 1 0 + length (cond t (b ∷ filter p (before ++ after)) (filter p (before ++ after)))) [
      | true ↦ more (length (filter p (before ++ a ∷ after))) (cond (p a) 1 0) (length (filter p (before ++ after))) rest
      | false ↦ rest
    ])
  where
    more : (x k y : ℕ) → x ≡ k + y → suc x ≡ k + suc y
    more x k y is = omega (arith, is)
