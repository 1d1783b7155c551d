-- Splitting a seat off, joining one in and learning from that keep the rule, and the rule holds at the start.
use Rattle.std.proofs.Common.{◌≡◌, ℕ, ◌+◌, ◌%◌, ◌^◌, ◌<◌, ◌≤◌, true, false, cond, ltb, List, [], ◌∷◌, ◌++◌, length, get_or, set, sym, refl, ap, ◌∙◌, subst, ⊎_elim, arith}
use Rattle.std.specs.Prelude.{Option, Some, slice_index}
use Rattle.std.proofs.lemmas.Bool.{ltb-true, ltb-false}
use mathlib.Core.Option.{some, none, some-ne-none}
use mathlib.Core.Logic.{dite}
use native.Mathlib.Decide.{ℕ_discrete}
use lib.ListN.{get_elem?}
use Rattle.atomic_table.specs.Table.{State, Me, step, opening, Allows, Splits, Joins, keeps}
use Rattle.atomic_table.proofs.Lists.{set_else, at_longer}
use Rattle.seat_lock.specs.declared.view.Stage.{Stage}
use Rattle.seat_lock.specs.declared.view.Stage.TheVariants.{Idle, Turn}
use Rattle.seat_lock.specs.declared.view.View.{View}
use Rattle.seat_lock.specs.Histories.{total, times, IsPrefix}
use Rattle.seat_lock.specs.Views.{in_use, holding, tickets, weight, longer, shorter, first_view, left_of, right_of, both_of, settled, spent_view}
use Rattle.seat_lock.specs.Rule.{Place, home, Holds, Stands, Has, Fits, InOrder}
use Rattle.seat_lock.specs.Steps.{learned, Unites}
use Rattle.seat_lock.proofs.Totals.{at_push, each_set, total_at, total_set, total_push, same_total, times_both, set_self}
use Rattle.seat_lock.proofs.Histories.{prefix_self, prefix_none, prefix_shorter, closed_both}
use Rattle.seat_lock.proofs.Kept.{holds_still, holds_longer, not_in_line, made_once}

module _ {E : Type 0} where
  -- what holds of both histories holds of the longer and of the shorter
  of_longer : (P : List E → Type 0) (a b : List E) → P a → P b → P (longer a b)
  of_longer P a b p q = (elim (ltb (length a) (length b)) as (λ t. P (cond t b a)) [ true ↦ q | false ↦ p ])

  of_shorter : (P : List E → Type 0) (a b : List E) → P a → P b → P (shorter a b)
  of_shorter P a b p q = (elim (ltb (length a) (length b)) as (λ t. P (cond t a b)) [ true ↦ p | false ↦ q ])

  first_longer : (a b : List E) → length a ≤ length (longer a b)
  first_longer a b = (elim (ltb (length a) (length b)) as (λ t. ltb (length a) (length b) ≡ t → length a ≤ length (cond t b a)) [
    | true ↦ λ h. (let l = ltb-true (length a) (length b) h in omega arith)
    | false ↦ λ h. omega arith
  ]) refl

  second_longer : (a b : List E) → length b ≤ length (longer a b)
  second_longer a b = (elim (ltb (length a) (length b)) as (λ t. ltb (length a) (length b) ≡ t → length b ≤ length (cond t b a)) [
    | true ↦ λ h. omega arith
    | false ↦ λ h. (let l = ltb-false (length a) (length b) h in omega arith)
  ]) refl

  -- where the shorter history begins the longer, both begin the longer
  pub both_begin : (a b : List E) → (length (shorter a b) ≤ length (longer a b) → IsPrefix (shorter a b) (longer a b)) → IsPrefix a (longer a b)
      × IsPrefix b (longer a b)
  both_begin a b =
      (elim (ltb (length a) (length b)) as (λ t. ltb (length a)
      (length b) ≡ t → (length (cond t a b) ≤ length (cond t b a) → IsPrefix (cond t a b) (cond t b a)) → IsPrefix a (cond t b a) × IsPrefix b (cond t b a)) [
        | true ↦ λ h p. (let l = ltb-true (length a) (length b) h in (p (omega arith), prefix_self b))
        | false ↦ λ h p. (let l = ltb-false (length a) (length b) h in (prefix_self a, p (omega arith)))
      ]) refl

module _ {T G E : Type 0} (givens : T → G) (history : T → List E) (owner : E → Option ℕ) (all : G) (base : ℕ) where
  abbrev L : State (Option T) (View G E) → Type 0
  L = InOrder givens history owner all base

  -- a seat that holds nothing changes what it knows: the line stays, and so does the value's place
  module _ (id : ℕ) (v w : View G E) (s : State (Option T) (View G E)) (r : L s) (idle : v.stage ≡ Idle) (at : get_elem? s.views id ≡ some v) where
    line_still : (k j : ℕ) → get_elem? r.line k ≡ some j → Has (slice_index s.words 0) (set s.views id w) k j
    line_still k j q = let h = r.in_line k j q in
        (h.0, set_else s.views id j w (not_in_line givens history owner all base s r id v at (ap holding idle) k j q) ∙ h.1, h.2, h.3)

    place_still : Holds givens history all r.log (set s.views id w) r.place
    place_still = holds_still givens history all r.log s.views id v w at (λ t. let c : Turn ≡ Idle = sym t ∙ idle in cc) r.place r.holds

  module _ (served : ℕ) (log : List E) (line : List ℕ) (place : Place T) (id : ℕ) (v : View G E) (f : Fits owner all base served log line place id v)
      (idle : v.stage ≡ Idle) where
    used : in_use v.stage ≡ 1
    used = ap in_use idle

    fits_left : Fits owner all base served log line place id (left_of v)
    fits_left =
        record {
          stands = subst (λ (st : Stage). Stands served log line place id (left_of v) st) (sym idle) tt;
          saw = f.saw;
          keeps = f.keeps;
          closed = f.closed;
          within = f.within;
          knows = f.knows;
        }

    fits_right : (j : ℕ) → Fits owner all base served log line place j (right_of v)
    fits_right j =
        record {
          stands = tt;
          saw = f.saw;
          keeps = prefix_none log;
          closed = λ x c i b. absurd (omega arith);
          within = λ x i. absurd (omega arith);
          knows = λ _. f.knows used;
        }

    fits_settled : Fits owner all base served log line place id (settled v)
    fits_settled =
        record {
          stands = subst (λ (st : Stage). Stands served log line place id (settled v) st) (sym idle) tt;
          saw = f.saw;
          keeps = prefix_none log;
          closed = f.closed;
          within = f.within;
          knows = f.knows;
        }

    fits_both : (j : ℕ) (w : View G E) → Fits owner all base served log line place j w → Fits owner all base served log line place id (both_of v w)
    fits_both j w g = record {
      stands = tt;
      saw = of_longer (λ h. IsPrefix h log) v.seen w.seen f.saw g.saw;
      keeps = of_shorter (λ h. IsPrefix h log) v.seen w.seen f.saw g.saw;
      closed = closed_both owner log v.mine w.mine f.closed g.closed;
      within = λ x i. dite (ℕ_discrete (times x v.mine) 0)
          (λ z. let t = times_both x v.mine w.mine in let b = g.within x (omega arith) in let l = second_longer v.seen w.seen in omega arith)
          (λ z. let b = f.within x (omega arith) in let l = first_longer v.seen w.seen in omega arith);
      knows = λ _. f.knows used;
    }

  fits_spent : (served : ℕ) (log : List E) (line : List ℕ) (place : Place T) (j : ℕ) → Fits owner all base served log line place j spent_view
  fits_spent served log line place j =
      record {
        stands = (refl, refl, refl);
        saw = prefix_none log;
        keeps = prefix_none log;
        closed = λ x c i b. absurd (omega arith);
        within = λ x i. absurd (omega arith);
        knows = λ u. absurd (omega arith);
      }

  pub splits : (id : ℕ) (v : View G E) → v.stage ≡ Idle → 0 < v.room → Splits L id v (left_of v) (right_of v)
  splits id v idle room s r at =
      let w : View G E = left_of v in
      let n : View G E = right_of v in
      let served : ℕ = slice_index s.words 0 in
      let vs : List (View G E) = set s.views id w in
      let f = r.each id v at in
      let made : (x : ℕ) → total (λ (u : View G E). times x u.mine) (vs ++ n ∷ []) ≡ total (λ (u : View G E). times x u.mine) s.views =
      λ x. (let t = total_push (λ (u : View G E). times x u.mine) vs n in let e = same_total (λ (u : View G E). times x u.mine) s.views id v w at refl in
      omega arith) in
      record {
        log = r.log;
        line = r.line;
        place = r.place;
        wide = r.wide;
        next_is = r.next_is;
        homes_are = r.homes_are;
        holds = holds_longer givens history all r.log vs n r.place (place_still id v w s r idle at);
        in_line = λ k j q. let h = line_still id v w s r idle at k j q in (h.0, at_longer vs (n ∷ []) j h.0 h.1, h.2, h.3);
        counted = let t = total_push (tickets {G = G} {E = E}) vs n in let e = same_total (tickets {G = G} {E = E}) s.views id v w at refl in
            let c = r.counted in omega arith;
        whole = let t = total_push (weight {G = G} {E = E}) vs n in let e = total_set (weight {G = G} {E = E}) s.views id v w at in let c = r.whole in
            omega arith;
        grown = r.grown;
        old = λ x h. made x ∙ r.old x h;
        new = λ x h i. made x ∙ r.new x h i;
        future = λ x h. made x ∙ r.future x h;
        each = λ j u q. ⊎_elim
            (λ (o : get_elem? vs j ≡ some u). each_set (λ i a. Fits owner all base served r.log r.line r.place i a) s.views id w
            (fits_left served r.log r.line r.place id v f idle) (λ i a _ p. r.each i a p) j u o)
            (λ (o : (j ≡ length vs) × (n ≡ u)). subst (λ (a : View G E). Fits owner all base served r.log r.line r.place j a) o.1
            (fits_right served r.log r.line r.place id v f idle j))
            (at_push vs n u j q);
      }

  pub joins : (id : ℕ) (v : View G E) (other : ℕ) (w : View G E) → v.stage ≡ Idle → w.stage ≡ Idle → Joins L id v other w (both_of v w) spent_view
  joins id v other w idle still s r at two at' =
      let b : View G E = both_of v w in
      let served : ℕ = slice_index s.words 0 in
      let vs : List (View G E) = set s.views id b in
      let us : List (View G E) = set vs other spent_view in
      let there : get_elem? s.views other ≡ some w = sym (set_else s.views id other b two) ∙ at' in
      let f = r.each id v at in
      let g = r.each other w there in
      let none_v : holding v.stage ≡ 0 = ap holding idle in
      let none_w : holding w.stage ≡ 0 = ap holding still in
      let one_v : in_use v.stage ≡ 1 = ap in_use idle in
      let one_w : in_use w.stage ≡ 1 = ap in_use still in
      let made : (x : ℕ) → total (λ (u : View G E). times x u.mine) us ≡ total (λ (u : View G E). times x u.mine) s.views =
      λ x. (let t = total_set (λ (u : View G E). times x u.mine) s.views id v b at in
      let e = total_set (λ (u : View G E). times x u.mine) vs other w spent_view at' in let q = times_both x v.mine w.mine in omega arith) in
      record {
        log = r.log;
        line = r.line;
        place = r.place;
        wide = r.wide;
        next_is = r.next_is;
        homes_are = r.homes_are;
        holds = holds_still givens history all r.log vs other w spent_view at' (λ t. let c : Turn ≡ Idle = sym t ∙ still in cc) r.place
            (place_still id v b s r idle at);
        in_line = λ k j q. let h = line_still id v b s r idle at k j q in
            (h.0, set_else vs other j spent_view (not_in_line givens history owner all base s r other w there none_w k j q) ∙ h.1, h.2, h.3);
        counted = same_total (tickets {G = G} {E = E}) vs other w spent_view at' (sym none_w)
            ∙ (same_total (tickets {G = G} {E = E}) s.views id v b at (sym none_v) ∙ r.counted);
        whole = let t = total_set (weight {G = G} {E = E}) s.views id v b at in let e = total_set (weight {G = G} {E = E}) vs other w spent_view at' in
            let c = r.whole in omega arith;
        grown = r.grown;
        old = λ x h. made x ∙ r.old x h;
        new = λ x h i. made x ∙ r.new x h i;
        future = λ x h. made x ∙ r.future x h;
        each = each_set (λ i a. Fits owner all base served r.log r.line r.place i a) vs other spent_view (fits_spent served r.log r.line r.place other)
            (λ j u _ q. each_set (λ i a. Fits owner all base served r.log r.line r.place i a) s.views id b
            (fits_both served r.log r.line r.place id v f idle other w g) (λ i a _ p. r.each i a p) j u q);
      }

  pub learns : (n id : ℕ) (me : Me (Option T) (View G E)) → me.0.stage ≡ Idle → Allows L n id me 0 (λ k. k) (learned (step n 0 0 0 none) me)
  learns n id me idle s r one at small =
      let v : View G E = me.0 in
      let w : View G E = settled v in
      let served : ℕ = slice_index s.words 0 in
      let f = r.each id v at in
      let made : (x : ℕ) → total (λ (u : View G E). times x u.mine) (set s.views id w) ≡ total (λ (u : View G E). times x u.mine) s.views =
      λ x. same_total (λ (u : View G E). times x u.mine) s.views id v w at refl in (
        w,
        keeps,
        tt,
        subst (λ (ws : List ℕ). L record { words = ws; homes = s.homes; views = set s.views id w }) (sym (set_self s.words 0)) record {
          log = r.log;
          line = r.line;
          place = r.place;
          wide = r.wide;
          next_is = r.next_is;
          homes_are = r.homes_are;
          holds = place_still id v w s r idle at;
          in_line = line_still id v w s r idle at;
          counted = same_total (tickets {G = G} {E = E}) s.views id v w at refl ∙ r.counted;
          whole = same_total (weight {G = G} {E = E}) s.views id v w at refl ∙ r.whole;
          grown = r.grown;
          old = λ x h. made x ∙ r.old x h;
          new = λ x h i. made x ∙ r.new x h i;
          future = λ x h. made x ∙ r.future x h;
          each = each_set (λ i a. Fits owner all base served r.log r.line r.place i a) s.views id w (fits_settled served r.log r.line r.place id v f idle)
              (λ i a _ p. r.each i a p);
        },
        (
          refl,
          (λ x. let t = total_at (λ (u : View G E). times x u.mine) s.views id v at in let o = made_once givens history owner all base s r x in omega arith),
          (λ h. prefix_shorter v.kept v.seen r.log f.keeps f.saw h),
        ),
      )

module _ {T G E : Type 0} (givens : T → G) (history : T → List E) (owner : E → Option ℕ) where
  pub opens : (x : T) (words : List ℕ) → 2 ≤ length words → get_or words 0 0 ≡ 0 → get_or words 1 0 ≡ 0
      → InOrder givens history owner (givens x) (length (history x)) (opening words (Some x ∷ []) (first_view (givens x) (history x)))
  opens x words wide zero_th one_th = record {
    log = history x;
    line = [];
    place = home x;
    wide = wide;
    next_is = one_th ∙ ap (λ (z : ℕ). (z + 0) % 2 ^ 64) (sym zero_th);
    homes_are = refl;
    holds = (refl, refl);
    in_line = λ k j q. absurd (some-ne-none j (sym q));
    counted = refl;
    whole = refl;
    grown = omega arith;
    old = λ y h. refl;
    new = λ y low high. absurd (omega arith);
    future = λ y h. refl;
    each = λ j v q. ⊎_elim (λ (o : get_elem? [] j ≡ some v). absurd (some-ne-none v (sym o)))
        (λ (o : (j ≡ 0) × (first_view (givens x) (history x) ≡ v)). subst
        (λ (u : View G E). Fits owner (givens x) (length (history x)) (get_or words 0 0) (history x) [] (home x) j u) o.1 record {
          stands = tt;
          saw = prefix_self (history x);
          keeps = prefix_none (history x);
          closed = λ y c i b. absurd (omega arith);
          within = λ y i. absurd (omega arith);
          knows = λ _. (refl, refl);
        })
        (at_push [] (first_view (givens x) (history x)) v j q);
  }

  -- the same where the value is known through another name, and the slots through their list
  pub opens_with : (x key : T) → key ≡ x → (words : List ℕ) (slots : List (Option T)) → slots ≡ Some x ∷ [] → 2 ≤ length words → get_or words 0 0 ≡ 0
      → get_or words 1 0 ≡ 0
      → InOrder givens history owner (givens key) (length (history key)) (opening words slots (first_view (givens key) (history key)))
  opens_with x key e words slots is wide zero_th one_th =
      subst (λ (l : List (Option T)). InOrder givens history owner (givens key) (length (history key))
      (opening words l (first_view (givens key) (history key)))) (ap (λ (y : T). Some y ∷ []) e ∙ sym is) (opens key words wide zero_th one_th)

module _ {G E : Type 0} where
  -- what the load after a join tells
  pub unites : (v w m n : View G E) → m ≡ both_of v w → n ≡ settled m → ((x : ℕ) → times x m.mine ≤ 1)
      → (length m.kept ≤ length m.seen → IsPrefix m.kept m.seen) → Unites v w n
  unites v w m n joined is once begins =
      let start : Unites v w (settled (both_of v w)) =
      (let b = both_begin v.seen w.seen (subst (λ (u : View G E). length u.kept ≤ length u.seen → IsPrefix u.kept u.seen) joined begins) in record {
        first = b.0;
        second = b.1;
        apart = λ x.
            (let t = times_both x v.mine w.mine in let o : times x (v.mine ++ w.mine) ≤ 1 = subst (λ (u : View G E). times x u.mine ≤ 1) joined (once x) in
            omega arith);
      }) in
      subst (Unites v w) (sym (is ∙ ap settled joined)) start
