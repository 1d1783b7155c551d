-- Histories that grow: their beginnings, entering entries, and the positions that one has made.
use Rattle.std.proofs.Common.{◌≡◌, ℕ, zero, suc, ◌+◌, ◌<◌, ◌≤◌, Bool, true, false, cond, List, [], ◌∷◌, ◌++◌, length, sym, refl, ap, ◌∙◌, subst, ⊎_elim, append_assoc, append-nil, length-append, eq-eqb, ne_eqb, arith}
use Rattle.std.proofs.lemmas.Bool.{eqb-true}
use Rattle.std.specs.Prelude.{Option, Some, None}
use mathlib.Core.Option.{some, some-injective, some-ne-none}
use mathlib.Core.Logic.{dite}
use native.Mathlib.Decide.{ℕ_discrete}
use lib.ListN.{get_elem?}
use Rattle.atomic_table.proofs.Lists.{at_longer, at_last}
use Rattle.seat_lock.specs.Histories.{times, In, IsPrefix, is_of, entering, Belongs, IsClosed, MayMake, made_by}
use Rattle.seat_lock.proofs.Totals.{at_push, one_at, times_both, in_added, in_longer, in_last}

module _ {E : Type 0} where
  pub prefix_self : (xs : List E) → IsPrefix xs xs
  prefix_self xs = ([], sym (append-nil xs))

  pub prefix_none : (xs : List E) → IsPrefix [] xs
  prefix_none xs = (xs, refl)

  pub prefix_longer : (xs ys zs : List E) → IsPrefix xs ys → IsPrefix xs (ys ++ zs)
  prefix_longer xs ys zs p = (p.0 ++ zs, ap (λ (l : List E). l ++ zs) p.1 ∙ append_assoc xs p.0 zs)

  pub prefix_through : (xs ys zs : List E) → IsPrefix xs ys → IsPrefix ys zs → IsPrefix xs zs
  prefix_through xs ys zs p q = subst (λ (l : List E). IsPrefix xs l) (sym q.1) (prefix_longer xs ys q.0 p)

  pub prefix_below : (xs ys : List E) → IsPrefix xs ys → length xs ≤ length ys
  prefix_below xs ys p = let e : length ys ≡ length xs + length p.0 = ap length p.1 ∙ length-append xs p.0 in omega arith

  -- of two beginnings of one list, the shorter begins the longer
  pub prefix_shorter : (xs ys zs : List E) → IsPrefix xs zs → IsPrefix ys zs → length xs ≤ length ys → IsPrefix xs ys
  prefix_shorter [] ys zs p q h = prefix_none ys
  prefix_shorter (x ∷ xs) [] zs p q h = absurd (omega arith)
  prefix_shorter (x ∷ xs) (y ∷ ys) zs p q h =
      let both : x ∷ (xs ++ p.0) ≡ y ∷ (ys ++ q.0) = sym p.1 ∙ q.1 in
      let heads : x ≡ y = cc in
      let tails : xs ++ p.0 ≡ ys ++ q.0 = cc in
      let t = prefix_shorter xs ys (ys ++ q.0) (p.0, sym tails) (q.0, refl) (omega arith) in
      (t.0, (λ i. sym heads i ∷ t.1 i))

pub is_of-same : (c : ℕ) (o : Option ℕ) → is_of c o ≡ true → o ≡ Some c
is_of-same c None h = cc
is_of-same c (Some d) h = ap Some (eqb-true d c h)

pub is_of-own : (c : ℕ) (o : Option ℕ) → o ≡ Some c → is_of c o ≡ true
is_of-own c o e = subst (λ (p : Option ℕ). is_of c p ≡ true) (sym e) (eq-eqb c c refl)

module _ {E : Type 0} (owner : E → Option ℕ) where
  -- an entering entry stands at or before each entry of its connection
  pub entering_least : (c : ℕ) (log : List E) (x : ℕ) → Belongs owner log x c → entering owner c log ≤ x
  entering_least c [] x b = absurd (some-ne-none b.0 (sym b.1))
  entering_least c (e ∷ es) zero b =
      let own : is_of c (owner e) ≡ true = is_of-own c (owner e) (ap owner (some-injective e b.0 b.1) ∙ b.2) in
      subst (λ (t : Bool). cond t 0 (suc (entering owner c es)) ≤ 0) (sym own) (omega arith)
  entering_least c (e ∷ es) (suc x) b =
      let h = entering_least c es x b in
      (elim (is_of c (owner e)) as (λ t. cond t 0 (suc (entering owner c es)) ≤ suc x) [ true ↦ omega arith | false ↦ omega arith ])

  -- it is of the connection, where that has an entry at all
  pub entering_found : (c : ℕ) (log : List E) → entering owner c log < length log → Belongs owner log (entering owner c log) c
  entering_found c [] h = absurd (omega arith)
  entering_found c (e ∷ es) h =
      (elim (is_of c (owner e)) as (λ t. is_of c (owner e) ≡ t → cond t 0 (suc (entering owner c es)) < suc (length es)
      → Belongs owner (e ∷ es) (cond t 0 (suc (entering owner c es))) c) [
        | true ↦ λ own _. (e, refl, is_of-same c (owner e) own)
        | false ↦ λ _ low. entering_found c es (omega arith)
      ]) refl h

  -- it stays where it is
  pub entering_stays : (c : ℕ) (log more : List E) → entering owner c log < length log → entering owner c (log ++ more) ≡ entering owner c log
  entering_stays c [] more h = absurd (omega arith)
  entering_stays c (e ∷ es) more h =
      (elim (is_of c (owner e)) as (λ t. cond t 0 (suc (entering owner c es)) < suc (length es)
      → cond t 0 (suc (entering owner c (es ++ more))) ≡ cond t 0 (suc (entering owner c es))) [
        | true ↦ λ _. refl
        | false ↦ λ low. ap suc (entering_stays c es more (omega arith))
      ]) h

  -- a connection with no entry enters at the end
  pub entering_none : (c : ℕ) (log : List E) → ((x : ℕ) → Belongs owner log x c → ⊥) → entering owner c log ≡ length log
  entering_none c [] h = refl
  entering_none c (e ∷ es) h =
      (elim (is_of c (owner e)) as (λ t. is_of c (owner e) ≡ t → cond t 0 (suc (entering owner c es)) ≡ suc (length es)) [
        | true ↦ λ own. absurd (h 0 (e, refl, is_of-same c (owner e) own))
        | false ↦ λ _. ap suc (entering_none c es (λ x b. h (suc x) b))
      ]) refl

  pub entering_new : (c : ℕ) (log : List E) (e : E) → ((x : ℕ) → Belongs owner log x c → ⊥) → owner e ≡ Some c → entering owner c (log ++ e ∷ []) ≡ length log
  entering_new c [] e h own = subst (λ (t : Bool). cond t 0 (suc (entering owner c [])) ≡ 0) (sym (is_of-own c (owner e) own)) refl
  entering_new c (d ∷ es) e h own =
      (elim (is_of c (owner d)) as (λ t. is_of c (owner d) ≡ t → cond t 0 (suc (entering owner c (es ++ e ∷ []))) ≡ suc (length es)) [
        | true ↦ λ own'. absurd (h 0 (d, refl, is_of-same c (owner d) own'))
        | false ↦ λ _. ap suc (entering_new c es e (λ x b. h (suc x) b) own)
      ]) refl

  pub belongs_longer : (log more : List E) (x c : ℕ) → Belongs owner log x c → Belongs owner (log ++ more) x c
  belongs_longer log more x c b = (b.0, at_longer log more x b.0 b.1, b.2)

  -- the positions stay closed as the history gets an entry more
  pub closed_more : (log : List E) (e : E) (mine : List ℕ) → ((x : ℕ) → In x mine → x < length log) → IsClosed owner log mine
      → IsClosed owner (log ++ e ∷ []) mine
  closed_more log e mine low closed x c i b = ⊎_elim
      (λ (old : get_elem? log x ≡ some b.0).
      let there = closed x c i (b.0, old, b.2) in
      subst (λ (k : ℕ). In k mine) (sym (entering_stays c log (e ∷ []) (low _ there))) there)
      (λ (end : (x ≡ length log) × (e ≡ b.0)). let l = low x i in let q = end.0 in absurd (omega arith))
      (at_push log e b.0 x b.1)

  -- they stay closed with the new entry too, where that may be made
  pub closed_push : (log : List E) (e : E) (mine : List ℕ) → ((x : ℕ) → In x mine → x < length log) → IsClosed owner log mine → MayMake owner log mine e
      → IsClosed owner (log ++ e ∷ []) (mine ++ length log ∷ [])
  closed_push log e mine low closed may x c i b = ⊎_elim
      (λ (old : In x mine). in_longer _ mine (length log) (closed_more log e mine low closed x c old b))
      (λ (is : x ≡ length log).
      let ends : get_elem? (log ++ e ∷ []) (length log) ≡ some b.0 = subst (λ (k : ℕ). get_elem? (log ++ e ∷ []) k ≡ some b.0) is b.1 in
      let own : owner e ≡ Some c = ap owner (one_at (log ++ e ∷ []) (length log) e b.0 (at_last log e (length log) refl) ends) ∙ b.2 in
      ⊎_elim
      (λ (none : (y : ℕ) → Belongs owner log y c → ⊥). subst (λ (k : ℕ). In k (mine ++ length log ∷ [])) (sym (entering_new c log e none own))
      (in_last (length log) mine))
      (λ (there : In (entering owner c log) mine). subst (λ (k : ℕ). In k (mine ++ length log ∷ [])) (sym (entering_stays c log (e ∷ []) (low _ there)))
      (in_longer _ mine (length log) there))
      (may c own))
      (in_added x (length log) mine i)

  pub closed_both : (log : List E) (xs ys : List ℕ) → IsClosed owner log xs → IsClosed owner log ys → IsClosed owner log (xs ++ ys)
  closed_both log xs ys p q x c i b =
      let k : ℕ = entering owner c log in
      dite (ℕ_discrete (times x xs) 0)
      (λ z. let t = times_both x xs ys in let h : In k ys = q x c (omega arith) b in let u = times_both k xs ys in omega arith)
      (λ z. let h : In k xs = p x c (omega arith) b in let u = times_both k xs ys in omega arith)

module _ {E : Type 0} where
  pub made_none : (mine : List ℕ) (log new : List E) → new ≡ log → made_by mine log new ≡ mine
  made_none mine log new e = ap (λ (t : Bool). cond t mine (mine ++ length log ∷ [])) (eq-eqb (length new) (length log) (ap length e))

  pub made_one : (mine : List ℕ) (log : List E) (e : E) (new : List E) → new ≡ log ++ e ∷ [] → made_by mine log new ≡ mine ++ length log ∷ []
  made_one mine log e new is =
      let long : length new ≡ length log + 1 = ap length is ∙ length-append log (e ∷ []) in
      ap (λ (t : Bool). cond t mine (mine ++ length log ∷ [])) (ne_eqb (length new) (length log) (λ q. omega arith))
