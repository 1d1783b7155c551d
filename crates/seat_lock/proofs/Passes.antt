-- Passing the turn on keeps the rule.
use Rattle.std.proofs.Common.{◌≡◌, ℕ, zero, suc, ◌+◌, ◌%◌, ◌^◌, ◌<◌, ◌≤◌, ◌≢◌, ◌⊎◌, List, [], ◌∷◌, ◌++◌, length, get_or, set, sym, refl, ap, ◌∙◌, subst, inl, inr, ⊎_elim, length-append, lt_of_not-le, arith}
use Rattle.std.specs.Prelude.{Option, Some, slice_index}
use Rattle.std.proofs.lemmas.List.{get_or-set_same, get_or-set_other, length-set}
use mathlib.Core.Option.{some, none, some-injective}
use mathlib.Core.Option as maybe
use mathlib.Core.Logic.{dite}
use native.Mathlib.Decide.{dec_le}
use lib.ListN.{get_elem?}
use Rattle.atomic_table.specs.Table.{State, Me, step, Allows, gives, put_back, rest}
use Rattle.atomic_table.proofs.Lists.{set_here, set_else}
use Rattle.seat_lock.specs.declared.view.Stage.{Stage}
use Rattle.seat_lock.specs.declared.view.Stage.TheVariants.{Idle, Waiting, Turn, Spent}
use Rattle.seat_lock.specs.declared.view.View.{View}
use Rattle.seat_lock.specs.Histories.{total, times, In, IsPrefix, IsClosed, MayMake, MayPut, made_by}
use Rattle.seat_lock.specs.Views.{in_use, holding, tickets, weight, passed_on}
use Rattle.seat_lock.specs.Rule.{Place, home, out, homes_at, Stands, Has, Fits, InOrder}
use Rattle.seat_lock.specs.Steps.{passed}
use Rattle.seat_lock.proofs.Totals.{at_below, at_rest, one_at, each_set, total_set, same_total, times_both, times_here, times_else}
use Rattle.seat_lock.proofs.Histories.{prefix_self, prefix_none, prefix_longer, prefix_through, prefix_below, closed_more, closed_push, made_none, made_one}
use Rattle.seat_lock.proofs.Rounds.{round_first, round_next}
use Rattle.seat_lock.proofs.Kept.{line_short, knows_all}

-- How a put changes the one history and the positions that the seat made: by one entry at most.
record Grows {E : Type 0} (owner : E → Option ℕ) (log new : List E) (mine more : List ℕ) : Type 0 where
  begins : IsPrefix log new
  longer : (length new ≡ length log) ⊎ (length new ≡ length log + 1)
  same : (x : ℕ) → x < length log → times x more ≡ times x mine
  last : length log < length new → times (length log) more ≡ times (length log) mine + 1
  beyond : (x : ℕ) → length new ≤ x → times x more ≡ times x mine
  others : (ys : List ℕ) → ((x : ℕ) → In x ys → x < length log) → IsClosed owner log ys → IsClosed owner new ys
  own : IsClosed owner new more

module _ {E : Type 0} (owner : E → Option ℕ) where
  grows : (log mine_kept new : List E) (mine : List ℕ) → mine_kept ≡ log → ((x : ℕ) → In x mine → x < length log) → IsClosed owner log mine
      → MayPut owner mine_kept mine new → Grows owner log new mine (made_by mine mine_kept new)
  grows log kept new mine is low closed may = ⊎_elim
      (λ (same : new ≡ kept).
      let still : new ≡ log = same ∙ is in
      subst (λ (h : List E). Grows owner log h mine (made_by mine kept new)) (sym still)
      (subst (Grows owner log log mine) (sym (made_none mine kept new same)) record {
        begins = prefix_self log;
        longer = inl refl;
        same = λ x h. refl;
        last = λ h. absurd (omega arith);
        beyond = λ x h. refl;
        others = λ ys h c. c;
        own = closed;
      }))
      (λ (more : (e : E) × (new ≡ kept ++ e ∷ []) × MayMake owner kept mine e).
      let e : E = more.0 in
      let longer : new ≡ log ++ e ∷ [] = more.1 ∙ ap (λ (h : List E). h ++ e ∷ []) is in
      let may_make : MayMake owner log mine e = subst (λ (h : List E). MayMake owner h mine e) is more.2 in
      let made : made_by mine kept new ≡ mine ++ length log ∷ [] = made_one mine kept e new more.1 ∙ ap (λ (h : List E). mine ++ length h ∷ []) is in
      let long : length (log ++ e ∷ []) ≡ length log + 1 = length-append log (e ∷ []) in
      subst (λ (h : List E). Grows owner log h mine (made_by mine kept new)) (sym longer)
      (subst (Grows owner log (log ++ e ∷ []) mine) (sym made) record {
        begins = prefix_longer log log (e ∷ []) (prefix_self log);
        longer = inr long;
        same = λ x h. let t = times_both x mine (length log ∷ []) in let z = times_else x (length log) (λ q. omega arith) in omega arith;
        last = λ h. let t = times_both (length log) mine (length log ∷ []) in let o = times_here (length log) in omega arith;
        beyond = λ x h. let t = times_both x mine (length log ∷ []) in let z = times_else x (length log) (λ q. omega arith) in omega arith;
        others = λ ys h c. closed_more owner log e ys h c;
        own = closed_push owner log e mine low closed may_make;
      }))
      may

  made_below : (mine : List ℕ) (log new : List E) (more : List ℕ) → Grows owner log new mine more → ((x : ℕ) → In x mine → x < length log) → (x : ℕ) → In x more
      → x < length new
  made_below mine log new more g low x i =
      dite (dec_le (length new) x)
      (λ far. let m = g.beyond x far in let b = low x (omega arith) in let p = prefix_below log new g.begins in absurd (omega arith))
      (λ near. lt_of_not-le near)

-- a place behind the first is one nearer once the first is gone
nearer : (served : ℕ) (first : ℕ) (others : List ℕ) (j t : ℕ) → j ≢ first → (k : ℕ) → get_elem? (first ∷ others) k ≡ some j → t ≡ (served + k) % 2 ^ 64
    → (i : ℕ) × (get_elem? others i ≡ some j) × (t ≡ ((served + 1) % 2 ^ 64 + i) % 2 ^ 64)
nearer served first others j t n zero at e = absurd (n (sym (some-injective first j at)))
nearer served first others j t n (suc k) at e = (k, at, e ∙ sym (round_next served k (2 ^ 64)))

module _ {T G E : Type 0} where
  -- what the other seats' stages say, once the first in line has put the value back
  stands_home : (served : ℕ) (log new : List E) (first : ℕ) (others : List ℕ) (place : Place T) (x : T) (j : ℕ) (v : View G E) (st : Stage) → j ≢ first
      → Stands served log (first ∷ others) place j v st → Stands ((served + 1) % 2 ^ 64) new others (home x) j v st
  stands_home served log new first others place x j v Idle n h = tt
  stands_home served log new first others place x j v Waiting n h = nearer served first others j v.ticket n h.0 h.1 h.2
  stands_home served log new first others place x j v Turn n h = absurd (n (sym (some-injective first j h.0)))
  stands_home served log new first others place x j v Spent n h = h

  -- what the stage of the seat with the turn says
  has_turn : (served : ℕ) (log : List E) (line : List ℕ) (place : Place T) (j : ℕ) (v : View G E) (st : Stage) → st ≡ Turn → Stands served log line place j v st
      → (get_elem? line 0 ≡ some j) × (v.ticket ≡ served) × (place ≡ out j) × (v.kept ≡ log)
  has_turn served log line place j v st e h = subst (λ (t : Stage). Stands served log line place j v t) e h

module _ {T G E : Type 0} (givens : T → G) (history : T → List E) (owner : E → Option ℕ) (all : G) (base : ℕ) where
  abbrev L : State (Option T) (View G E) → Type 0
  L = InOrder givens history owner all base

  -- the words and views after the first in line has put x back
  puts : (id : ℕ) (v : View G E) (x : T) (s : State (Option T) (View G E)) (r : L s) → v.stage ≡ Turn → v.givens ≡ Some (givens x)
      → get_elem? s.views id ≡ some v → slice_index s.words 0 < 2 ^ 64
      → Grows owner r.log (history x) v.mine (made_by v.mine v.kept (history x)) → (others : List ℕ) → r.line ≡ id ∷ others → v.ticket ≡ slice_index s.words 0
      → L record { words = set s.words 0 ((slice_index s.words 0 + 1) % 2 ^ 64); homes = some (Some x) ∷ []; views = set s.views id (passed_on v (history x)) }
  puts id v x s r turn gave at small g others is ticket =
      let served : ℕ = slice_index s.words 0 in
      let next : ℕ = (served + 1) % 2 ^ 64 in
      let h : List E = history x in
      let w : View G E = passed_on v h in
      let here : get_or (set s.words 0 next) 0 0 ≡ next = get_or-set_same s.words 0 next 0 (let wide = r.wide in omega arith) in
      let there : get_or (set s.words 0 next) 1 0 ≡ slice_index s.words 1 = get_or-set_other s.words 0 1 next 0 (λ e. omega arith) in
      let long : length r.line ≡ suc (length others) = ap length is in
      let short = line_short givens history owner all base s r in
      let one : holding v.stage ≡ 1 = ap holding turn in
      let used : in_use v.stage ≡ 1 = ap in_use turn in
      let f = r.each id v at in
      let below : length r.log ≤ length h = prefix_below r.log h g.begins in
      let sum : (y : ℕ) → total (λ (u : View G E). times y u.mine) (set s.views id w) + times y v.mine ≡ total
      (λ (u : View G E). times y u.mine) s.views + times y w.mine = λ y. total_set (λ (u : View G E). times y u.mine) s.views id v w at in
      let F : ℕ → ℕ → View G E → Type 0 = λ z j u. Fits owner all base z h others (home x) j u in
      let with_givens : Some (givens x) ≡ Some all = sym gave ∙ (f.knows used).0 in
      record {
        log = h;
        line = others;
        place = home x;
        wide = let l = length-set s.words 0 next in let wide = r.wide in omega arith;
        next_is =
            there ∙ (r.next_is
            ∙ (ap (λ (z : ℕ). (served + z) % 2 ^ 64) long
            ∙ (sym (round_next served (length others) (2 ^ 64)) ∙ ap (λ (z : ℕ). (z + length others) % 2 ^ 64) (sym here))));
        homes_are = refl;
        holds = (refl, (let q : givens x ≡ all = cc in q));
        in_line = λ k j q. subst (λ (z : ℕ). Has z (set s.views id w) k j) (sym here) (
            let q' : get_elem? r.line (suc k) ≡ some j = subst (λ (l : List ℕ). get_elem? l (suc k) ≡ some j) (sym is) q in
            let o = r.in_line (suc k) j q' in
            let low = at_below r.line (suc k) j q' in
            let n : j ≢ id = λ e.
            let same : o.0 ≡ v = one_at s.views id o.0 v (subst (λ (z : ℕ). get_elem? s.views z ≡ some o.0) e o.1) at in
            let back : (served + suc k) % 2 ^ 64 ≡ served = sym o.3 ∙ (ap (λ (u : View G E). u.ticket) same ∙ ticket) in
            let zeroth = round_first served (suc k) (2 ^ 64) small (omega arith) back in omega arith in
            (o.0, set_else s.views id j w n ∙ o.1, o.2, o.3 ∙ sym (round_next served k (2 ^ 64))));
        counted = let t = total_set (tickets {G = G} {E = E}) s.views id v w at in let c = r.counted in omega arith;
        whole = same_total (weight {G = G} {E = E}) s.views id v w at (omega arith) ∙ r.whole;
        grown = let l = r.grown in omega arith;
        old = λ y low. let t = sum y in let o = r.old y low in let l = r.grown in let m = g.same y (omega arith) in omega arith;
        new = λ y low high. let t = sum y in dite (dec_le (length r.log) y)
            (λ end.
            let is_end : y ≡ length r.log =
            ⊎_elim (λ (e : length h ≡ length r.log). absurd (omega arith)) (λ (e : length h ≡ length r.log + 1). omega arith) g.longer in
            let o = r.future y end in
            let m = g.last (omega arith) in
            let m' : times y w.mine ≡ times y v.mine + 1 = subst (λ (z : ℕ). times z w.mine ≡ times z v.mine + 1) (sym is_end) m in omega arith)
            (λ not_end. let o = r.new y low (lt_of_not-le not_end) in let m = g.same y (lt_of_not-le not_end) in omega arith);
        future = λ y high. let t = sum y in let o = r.future y (omega arith) in let m = g.beyond y high in omega arith;
        each = λ j u q. subst (λ (z : ℕ). F z j u) (sym here) (each_set (F next) s.views id w
            record {
              stands = tt;
              saw = prefix_self h;
              keeps = prefix_none h;
              closed = g.own;
              within =
                  λ y i. made_below owner v.mine r.log h (made_by v.mine v.kept h) g
                  (λ z low. let b = f.within z low in let p = prefix_below v.seen r.log f.saw in omega arith) y i;
              knows = λ _. f.knows used;
            }
            (λ i a n p. let k = r.each i a p in record {
              stands =
                  stands_home served r.log h id others r.place x i a a.stage n (subst (λ (l : List ℕ). Stands served r.log l r.place i a a.stage) is k.stands);
              saw = prefix_through a.seen r.log h k.saw g.begins;
              keeps = prefix_through a.kept r.log h k.keeps g.begins;
              closed = g.others a.mine (λ z low. let b = k.within z low in let p = prefix_below a.seen r.log k.saw in omega arith) k.closed;
              within = k.within;
              knows = k.knows;
            }) j u q);
      }

  passes : (n id : ℕ) (me : Me (Option T) (View G E)) (x : T) → me.1 ≡ (0, Some x) ∷ [] → me.0.stage ≡ Turn → me.0.givens ≡ Some (givens x)
      → MayPut owner me.0.kept me.0.mine (history x)
      → Allows L n id me 0 (λ k. (k + 1) % 2 ^ 64) (passed givens history owner (step n 0 1 0 none) me)
  unfolding puts
  passes n id me x held turn gave may s r one at small =
      let served : ℕ = slice_index s.words 0 in
      let next : ℕ = (served + 1) % 2 ^ 64 in
      let w : View G E = passed_on me.0 (history x) in
      let f = r.each id me.0 at in
      let has = has_turn served r.log r.line r.place id me.0 me.0.stage turn f.stands in
      let parts = at_rest r.line id has.0 in
      let homes : s.homes ≡ none ∷ [] = r.homes_are ∙ ap homes_at has.2 in
      let low : (y : ℕ) → In y me.0.mine → y < length r.log = λ y i. let b = f.within y i in let p = prefix_below me.0.seen r.log f.saw in omega arith in
      let g = grows owner r.log me.0.kept (history x) me.0.mine has.3 low f.closed may in
      let home_again = puts id me.0 x s r turn gave at small g parts.0 parts.1 has.1 in
      let back : set s.homes 0 (some (Some x)) ≡ some (Some x) ∷ [] = ap (λ (hs : List (maybe.Option (Option T))). set hs 0 (some (Some x))) homes in
      let knows = knows_all givens history owner all base _ home_again id w (set_here s.views id w (at_below s.views id me.0 at)) refl in (
        w,
        gives,
        tt,
        subst (λ (c : List (ℕ × Option T)). L record { words = set s.words 0 next; homes = put_back s.homes c; views = set s.views id w }) (sym held)
            (subst (λ (hs : List (maybe.Option (Option T))). L record { words = set s.words 0 next; homes = hs; views = set s.views id w })
            (sym back) home_again),
        (x, held, ap (λ (c : List (ℕ × Option T)). (w, rest c)) held, knows),
      )

  -- the same where the seat before the step is known by an equation
  pub passes_after : (n id : ℕ) (v : View G E) (me : Me (Option T) (View G E)) (x : T) → me ≡ (v, (0, Some x) ∷ []) → v.stage ≡ Turn
      → v.givens ≡ Some (givens x) → MayPut owner v.kept v.mine (history x)
      → Allows L n id me 0 (λ k. (k + 1) % 2 ^ 64) (passed givens history owner (step n 0 1 0 none) me)
  passes_after n id v me x is turn gave may =
      subst (λ (m : Me (Option T) (View G E)). Allows L n id m 0 (λ k. (k + 1) % 2 ^ 64) (passed givens history owner (step n 0 1 0 none) m)) (sym is)
      (passes n id (v, (0, Some x) ∷ []) x refl turn gave may)

module _ {G E : Type 0} where
  -- what a put adds to the positions that the seat made
  pub made_none_in : (v w : View G E) (h : List E) → w ≡ passed_on v h → h ≡ v.kept → w.mine ≡ v.mine
  made_none_in v w h e is = ap (λ (u : View G E). u.mine) e ∙ made_none v.mine v.kept h is

  pub made_one_in : (v w : View G E) (h : List E) → w ≡ passed_on v h → (x : E) → h ≡ v.kept ++ x ∷ [] → w.mine ≡ v.mine ++ length v.kept ∷ []
  made_one_in v w h e x is = ap (λ (u : View G E). u.mine) e ∙ made_one v.mine v.kept x h is
