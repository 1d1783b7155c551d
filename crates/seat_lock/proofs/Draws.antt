-- Drawing a ticket keeps the rule.
use Rattle.std.proofs.Common.{◌≡◌, ℕ, ◌+◌, ◌%◌, ◌^◌, List, [], ◌∷◌, ◌++◌, length, get_or, set, sym, refl, ap, ◌∙◌, subst, ⊎_elim, length-append, arith}
use Rattle.std.specs.Prelude.{Option, slice_index}
use Rattle.std.proofs.lemmas.List.{get_or-set_same, get_or-set_other, length-set}
use mathlib.Core.Option.{some, none}
use lib.ListN.{get_elem?}
use Rattle.atomic_table.specs.Table.{Me, step, Allows, keeps}
use Rattle.atomic_table.proofs.Lists.{set_here, set_else, at_last}
use Rattle.seat_lock.specs.declared.view.Stage.TheVariants.{Idle}
use Rattle.seat_lock.specs.declared.view.View.{View}
use Rattle.seat_lock.specs.Histories.{times}
use Rattle.seat_lock.specs.Views.{in_use, holding, tickets, weight, drawn}
use Rattle.seat_lock.specs.Rule.{Has, Fits, InOrder}
use Rattle.seat_lock.specs.Steps.{drew}
use Rattle.seat_lock.proofs.Totals.{at_push, at_below, each_set, total_set, same_total}
use Rattle.seat_lock.proofs.Rounds.{round_more}
use Rattle.seat_lock.proofs.Kept.{stands_longer, holds_still, not_in_line}

module _ {T G E : Type 0} (givens : T → G) (history : T → List E) (owner : E → Option ℕ) (all : G) (base : ℕ) where
  pub draws : (n id : ℕ) (me : Me (Option T) (View G E)) → me.0.stage ≡ Idle
      → Allows (InOrder givens history owner all base) n id me 1 (λ k. (k + 1) % 2 ^ 64) (drew (step n 1 1 0 none) me)
  draws n id me idle s r one at small =
      let next : ℕ = slice_index s.words 1 in
      let served : ℕ = slice_index s.words 0 in
      let w : View G E = drawn me.0 next in
      let l = length-set s.words 1 ((next + 1) % 2 ^ 64) in
      let wide = r.wide in
      let here : get_or (set s.words 1 ((next + 1) % 2 ^ 64)) 0 0 ≡ served = get_or-set_other s.words 1 0 ((next + 1) % 2 ^ 64) 0 (λ e. omega arith) in
      let there : get_or (set s.words 1 ((next + 1) % 2 ^ 64)) 1 0 ≡ (next + 1) % 2 ^ 64 = get_or-set_same s.words 1 ((next + 1) % 2 ^ 64) 0 (omega arith) in
      let long : length (r.line ++ id ∷ []) ≡ length r.line + 1 = length-append r.line (id ∷ []) in
      let no_ticket : holding me.0.stage ≡ 0 = ap holding idle in
      let used : in_use me.0.stage ≡ 1 = ap in_use idle in
      let f = r.each id me.0 at in
      let F : ℕ → ℕ → View G E → Type 0 = λ z j v. Fits owner all base z r.log (r.line ++ id ∷ []) r.place j v in (
        w,
        keeps,
        tt,
        record {
          log = r.log;
          line = r.line ++ id ∷ [];
          place = r.place;
          wide = omega arith;
          next_is =
              there ∙ (ap (λ (z : ℕ). (z + 1) % 2 ^ 64) r.next_is ∙ (round_more served (length r.line) (2 ^ 64) ∙ ap (λ (z : ℕ). z % 2 ^ 64) (omega arith)));
          homes_are = r.homes_are;
          holds = holds_still givens history all r.log s.views id me.0 w at (λ t. let q : holding me.0.stage ≡ 1 = ap holding t in omega arith) r.place r.holds;
          in_line = λ k j q. subst (λ (z : ℕ). Has z (set s.views id w) k j) (sym here) (⊎_elim
              (λ (o : get_elem? r.line k ≡ some j).
              let h = r.in_line k j o in
              (h.0, set_else s.views id j w (not_in_line givens history owner all base s r id me.0 at no_ticket k j o) ∙ h.1, h.2, h.3))
              (λ (o : (k ≡ length r.line) × (id ≡ j)). (
                w,
                subst (λ (i : ℕ). get_elem? (set s.views id w) i ≡ some w) o.1 (set_here s.views id w (at_below s.views id me.0 at)),
                refl,
                r.next_is ∙ ap (λ (z : ℕ). (served + z) % 2 ^ 64) (sym o.0),
              ))
              (at_push r.line id j k q));
          counted = let t = total_set (tickets {G = G} {E = E}) s.views id me.0 w at in let c = r.counted in omega arith;
          whole = same_total (weight {G = G} {E = E}) s.views id me.0 w at (omega arith) ∙ r.whole;
          grown = r.grown;
          old = λ x h. same_total (λ (v : View G E). times x v.mine) s.views id me.0 w at refl ∙ r.old x h;
          new = λ x h i. same_total (λ (v : View G E). times x v.mine) s.views id me.0 w at refl ∙ r.new x h i;
          future = λ x h. same_total (λ (v : View G E). times x v.mine) s.views id me.0 w at refl ∙ r.future x h;
          each = λ j v q. subst (λ (z : ℕ). F z j v) (sym here) (each_set (F served) s.views id w
              record {
                stands = (length r.line, at_last r.line id (length r.line) refl, r.next_is);
                saw = f.saw;
                keeps = f.keeps;
                closed = f.closed;
                within = f.within;
                knows = λ _. f.knows used;
              }
              (λ i u _ p. let g = r.each i u p in record {
                stands = stands_longer served r.log r.line (id ∷ []) r.place i u u.stage g.stands;
                saw = g.saw;
                keeps = g.keeps;
                closed = g.closed;
                within = g.within;
                knows = g.knows;
              }) j v q);
        },
        refl,
      )
