-- What the index has of each id after a change.
use Rattle.std.specs.List.{filter_map, cons_option}
use Rattle.std.specs.Option.{option_and_then}
use Rattle.std.specs.Result.{OnErr}
use Rattle.std.specs.Prelude.{Result, Ok, Err}
use Rattle.std.specs.Prelude.{◌≡◌, ℕ, Bool, true, false, ◌==◌, cond, if◌then◌else◌, length, List, [], ◌∷◌, find, Option, Some, None, refl}
use Rattle.std.specs.BTreeMap.{BTreeMap, get, get_by, is_at, insert_entry}
use Rattle.std.specs.Cmp.Lexicographic.{slice_cmp}
use Rattle.std.specs.Map.{lookup, set_value, remove_entry}
use Rattle.std.specs.Ordering.{nat_cmp, is_eq, match_ordering}
use Rattle.std.specs.declared.cmp.Ordering.{Ordering}
use Rattle.std.specs.declared.cmp.Ordering.TheVariants.{Less, Equal, Greater}
use Rattle.std.specs.Global.{Vec}
use Rattle.std.specs.Vec.{vec_len}
use Rattle.std.proofs.Common.{inl, inr, sym, ap, subst, ◌∙◌, arith}
use Rattle.std.proofs.lemmas.Bool.{cases_eq, cond_both, cond-true, cond-false, false_from_ne_true, eq-eqb, eqb-true}
use Rattle.std.proofs.lemmas.Grind.{common_steps}
use Rattle.std.proofs.lemmas.Map.Lookups.{exact_bytes}
use Rattle.active_map.specs.ById.{Ids, numbers_in, numbers_of, IsWithin, IsAt}

-- the key of an id
abbrev hits : List ℕ → Vec ℕ → Bool
hits oid = is_at (λ key. slice_cmp nat_cmp oid key.items)

equal : (o : Ordering) → is_eq o ≡ true → o ≡ Equal
equal Less is = absurd (let e : false ≡ true = is in cc)
equal Equal is = refl
equal Greater is = absurd (let e : false ≡ true = is in cc)

-- a key is that of one id
its_id : (oid : List ℕ) (key : Vec ℕ) → hits oid key ≡ true → oid ≡ key.items
its_id oid key hit = exact_bytes oid key.items (equal (slice_cmp nat_cmp oid key.items) hit)

misses : (oid other : List ℕ) (key : Vec ℕ) → (other ≡ oid → ⊥) → oid ≡ key.items → hits other key ≡ false
misses oid other key apart is = false_from_ne_true (hits other key) (λ hit. apart (its_id other key hit ∙ sym is))

module _ (oid other : List ℕ) (apart : other ≡ oid → ⊥) where
  other_set : (es : List (Vec ℕ × Vec ℕ)) (w : Vec ℕ) → lookup (hits other) (set_value (hits oid) es w) ≡ lookup (hits other) es
  other_set [] w = refl
  other_set (e ∷ es) w =
      cond_both (hits oid e.0) ((e.0, w) ∷ es) (e ∷ set_value (hits oid) es w) (λ fs. lookup (hits other) fs ≡ lookup (hits other) (e ∷ es))
      (λ hit. (let miss = misses oid other e.0 apart (its_id oid e.0 hit) in
      cond-false (hits other e.0) (Some w) (lookup (hits other) es) miss ∙ sym (cond-false (hits other e.0) (Some e.1) (lookup (hits other) es) miss)))
      (λ _. ap (λ o. cond (hits other e.0) (Some e.1) o) (other_set es w))

  other_out : (es : List (Vec ℕ × Vec ℕ)) → lookup (hits other) (remove_entry (hits oid) es) ≡ lookup (hits other) es
  other_out [] = refl
  other_out (e ∷ es) =
      cond_both (hits oid e.0) es (e ∷ remove_entry (hits oid) es) (λ fs. lookup (hits other) fs ≡ lookup (hits other) (e ∷ es))
      (λ hit. sym (cond-false (hits other e.0) (Some e.1) (lookup (hits other) es) (misses oid other e.0 apart (its_id oid e.0 hit))))
      (λ _. ap (λ o. cond (hits other e.0) (Some e.1) o) (other_out es))

  other_put : (key w : Vec ℕ) → oid ≡ key.items → (es : List (Vec ℕ × Vec ℕ))
      → lookup (hits other) (insert_entry (λ x y. slice_cmp nat_cmp x.items y.items) es key w) ≡ lookup (hits other) es
  other_put key w is [] = cond-false (hits other key) (Some w) None (misses oid other key apart is)
  other_put key w is (e ∷ es) =
      elim (slice_cmp nat_cmp key.items e.0.items) as (λ o. slice_cmp nat_cmp key.items e.0.items ≡ o
      → lookup (hits other) (match_ordering o ((key, w) ∷ e ∷ es) ((e.0, w) ∷ es) (e ∷ insert_entry (λ x y. slice_cmp nat_cmp x.items y.items) es key w))
      ≡ lookup (hits other) (e ∷ es)) [
        | Less ↦ λ _. cond-false (hits other key) (Some w) (lookup (hits other) (e ∷ es)) (misses oid other key apart is)
        | Equal ↦ λ same. (let miss = misses oid other e.0 apart (is ∙ exact_bytes key.items e.0.items same) in
            cond-false (hits other e.0) (Some w) (lookup (hits other) es) miss ∙ sym (cond-false (hits other e.0) (Some e.1) (lookup (hits other) es) miss))
        | Greater ↦ λ _. ap (λ o. cond (hits other e.0) (Some e.1) o) (other_put key w is es)
      ] refl

abbrev items_of : Option (Vec ℕ) → List ℕ
items_of o = elim o [ None ↦ [] | Some numbers ↦ numbers.items ]

-- ---- of one adapter

pub within_set : (old new : Ids) (oid : List ℕ) (w : Vec ℕ) → new.entries ≡ set_value (hits oid) old.entries w
    → get_by (λ key. slice_cmp nat_cmp oid key.items) new ≡ Some w → IsWithin oid w.items old new
within_set old new oid w set at =
    record {
      at = ap items_of at;
      others = λ other apart. ap items_of (ap (lookup (hits other)) set ∙ other_set oid other apart old.entries w);
    }

pub within_put : (old new : Ids) (oid : List ℕ) (key w : Vec ℕ) → oid ≡ key.items
    → new.entries ≡ insert_entry (λ x y. slice_cmp nat_cmp x.items y.items) old.entries key w
    → get_by (λ y. slice_cmp nat_cmp key.items y.items) new ≡ Some w → IsWithin oid w.items old new
within_put old new oid key w is put at =
    record {
      at = ap (λ id. items_of (get_by (λ y. slice_cmp nat_cmp id y.items) new)) is ∙ ap items_of at;
      others = λ other apart. ap items_of (ap (lookup (hits other)) put ∙ other_put oid other apart key w is old.entries);
    }

pub within_out : (old new : Ids) (oid : List ℕ) → new.entries ≡ remove_entry (hits oid) old.entries
    → get_by (λ key. slice_cmp nat_cmp oid key.items) new ≡ None → IsWithin oid [] old new
within_out old new oid out at =
    record {
      at = ap items_of at;
      others = λ other apart. ap items_of (ap (lookup (hits other)) out ∙ other_out oid other apart old.entries);
    }

pub within_same : (old new : Ids) (oid : List ℕ) → new.entries ≡ old.entries → IsWithin oid (numbers_in old oid) old new
within_same old new oid same =
    record { at = ap (λ es. items_of (lookup (hits oid) es)) same; others = λ other _. ap (λ es. items_of (lookup (hits other) es)) same }

pub within_through : (old mid new : Ids) (oid some numbers : List ℕ) → IsWithin oid some old mid → IsWithin oid numbers mid new → IsWithin oid numbers old new
within_through old mid new oid some numbers first second =
    record { at = second.at; others = λ other apart. second.others other apart ∙ first.others other apart }

pub numbers_are : (ids : Ids) (oid : List ℕ) (o : Option (Vec ℕ)) → get_by (λ key. slice_cmp nat_cmp oid key.items) ids ≡ o → numbers_in ids oid ≡ items_of o
numbers_are ids oid o is = ap items_of is

-- ---- of all adapters

abbrev in_ids : List ℕ → Option Ids → List ℕ
in_ids oid o = elim o [ None ↦ [] | Some ids ↦ numbers_in ids oid ]

at_key : (k q : ℕ) → is_at (nat_cmp k) q ≡ (q == k)
at_key k q = grind (arith, common_steps)

module _ (k : ℕ) (oid : List ℕ) (numbers : List ℕ) (old new : BTreeMap ℕ Ids) (ids' : Ids)
    (updates : (q : ℕ) → get nat_cmp new q ≡ cond (is_at (nat_cmp k) q) (Some ids') (get nat_cmp old q)) where
  here : get nat_cmp new k ≡ Some ids'
  here = updates k ∙ cond-true (is_at (nat_cmp k) k) (Some ids') (get nat_cmp old k) (at_key k k ∙ eq-eqb k k refl)

  elsewhere : (q : ℕ) → (q ≡ k → ⊥) → get nat_cmp new q ≡ get nat_cmp old q
  elsewhere q apart =
      updates q ∙ cond-false (is_at (nat_cmp k) q) (Some ids') (get nat_cmp old q)
      (false_from_ne_true (is_at (nat_cmp k) q) (λ hit. apart (eqb-true q k (sym (at_key k q) ∙ hit))))

  others : (was : (id : List ℕ) → (id ≡ oid → ⊥) → numbers_in ids' id ≡ in_ids id (get nat_cmp old k)) (other : ℕ) (id : List ℕ)
      → ((other ≡ k) × (id ≡ oid) → ⊥) → numbers_of new other id ≡ numbers_of old other id
  others was other id apart =
      elim (cases_eq other k) [
        | inl same ↦ subst (λ q. numbers_of new q id ≡ numbers_of old q id) (sym same) (ap (in_ids id) here ∙ was id (λ is. apart (same, is)))
        | inr differs ↦ ap (in_ids id) (elsewhere other differs)
      ]

  pub at_set : (ids : Ids) → get nat_cmp old k ≡ Some ids → IsWithin oid numbers ids ids' → IsAt k oid numbers old new
  at_set ids had within =
      record { at = ap (in_ids oid) here ∙ within.at; others = others (λ id apart. within.others id apart ∙ sym (ap (in_ids id) had)) }

  pub at_put : (ids : Ids) → get nat_cmp old k ≡ None → ids.entries ≡ [] → IsWithin oid numbers ids ids' → IsAt k oid numbers old new
  at_put ids none empty within =
      record {
        at = ap (in_ids oid) here ∙ within.at;
        others = others (λ id apart. within.others id apart ∙ ap (λ es. items_of (lookup (hits id) es)) empty ∙ sym (ap (in_ids id) none));
      }

pub at_same : (k : ℕ) (oid : List ℕ) (old new : BTreeMap ℕ Ids) → new.entries ≡ old.entries → IsAt k oid (numbers_of old k oid) old new
at_same k oid old new same =
    record {
      at = ap (λ es. in_ids oid (lookup (is_at (nat_cmp k)) es)) same;
      others = λ other id _. ap (λ es. in_ids id (lookup (is_at (nat_cmp other)) es)) same;
    }

-- ---- what is left

pub on_err : {T E P : Type 0} (r : Result T E) → P → OnErr r P
on_err {T} {E} {P} r p = elim r as (λ x. OnErr x P) [ Ok x ↦ tt | Err e ↦ p ]

empty : (xs : List ℕ) → length xs ≡ 0 → xs ≡ []
empty [] is = refl
empty (x ∷ xs) is = absurd (omega (arith, is))

pub none_left : (v : Vec ℕ) → (vec_len v == 0) ≡ true → v.items ≡ []
none_left v is = empty v.items (let e = eqb-true (vec_len v) 0 is in let b = v.ok.0 in omega (arith, e, b))

-- ---- the first of some numbers at which something that passes is found

module _ {A : Type 0} (p : A → Bool) (look : ℕ → Option A) (n : ℕ) (rest : List ℕ) where
  abbrev passing : Option A → Option A
  passing o = option_and_then (λ a. if p a then Some a else None) o

  first_is : find p (filter_map look (n ∷ rest)) ≡ elim (passing (look n)) [ Some a ↦ Some a | None ↦ find p (filter_map look rest) ]
  first_is =
      elim (look n) as (λ o. find p (cons_option o (filter_map look rest))
      ≡ elim (passing o) [ Some a ↦ Some a | None ↦ find p (filter_map look rest) ]) [
        | None ↦ refl
        | Some a ↦ elim (p a) as (λ t. cond t (Some a) (find p (filter_map look rest))
            ≡ elim (if t then Some a else None) [ Some b ↦ Some b | None ↦ find p (filter_map look rest) ]) [ true ↦ refl | false ↦ refl ]
      ]

  pub first_hit : (a : A) → passing (look n) ≡ Some a → find p (filter_map look (n ∷ rest)) ≡ Some a
  first_hit a is = first_is ∙ ap (λ o. elim o [ Some b ↦ Some b | None ↦ find p (filter_map look rest) ]) is

  pub first_miss : passing (look n) ≡ None → find p (filter_map look (n ∷ rest)) ≡ find p (filter_map look rest)
  first_miss is = first_is ∙ ap (λ o. elim o [ Some b ↦ Some b | None ↦ find p (filter_map look rest) ]) is
