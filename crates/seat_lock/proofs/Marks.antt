-- A step on a word on which threads sleep keeps the rule, which says nothing of those words.
use Rattle.std.proofs.Common.{◌≡◌, ℕ, ◌+◌, ◌%◌, ◌^◌, ◌≤◌, List, length, get_or, set, sym, refl, ap, ◌∙◌, subst, arith}
use Rattle.std.specs.Prelude.{Option, slice_index}
use Rattle.std.proofs.lemmas.List.{get_or-set_other, length-set}
use mathlib.Core.Option.{none}
use Rattle.atomic_table.specs.Table.{State, Me, step, Allows, keeps}
use Rattle.atomic_table.proofs.Lists.{set_again}
use Rattle.seat_lock.specs.declared.view.View.{View}
use Rattle.seat_lock.specs.Rule.{Has, Fits, InOrder}
use Rattle.seat_lock.specs.Steps.{marked}

module _ {T G E : Type 0} (givens : T → G) (history : T → List E) (owner : E → Option ℕ) (all : G) (base : ℕ) where
  -- the rule looks at the first two words alone
  pub other_word : (s : State (Option T) (View G E)) (i new : ℕ) → 2 ≤ i → InOrder givens history owner all base s
      → InOrder givens history owner all base record { words = set s.words i new; homes = s.homes; views = s.views }
  other_word s i new far r =
      let here : get_or (set s.words i new) 0 0 ≡ get_or s.words 0 0 = get_or-set_other s.words i 0 new 0 (λ e. omega arith) in
      record {
        log = r.log;
        line = r.line;
        place = r.place;
        wide = let l = length-set s.words i new in let w = r.wide in omega arith;
        next_is = get_or-set_other s.words i 1 new 0 (λ e. omega arith) ∙ (r.next_is ∙ ap (λ (z : ℕ). (z + length r.line) % 2 ^ 64) (sym here));
        homes_are = r.homes_are;
        holds = r.holds;
        in_line = λ k j q. subst (λ (z : ℕ). Has z s.views k j) (sym here) (r.in_line k j q);
        counted = r.counted;
        whole = r.whole;
        grown = r.grown;
        old = r.old;
        new = r.new;
        future = r.future;
        each = λ j v q. subst (λ (z : ℕ). Fits owner all base z r.log r.line r.place j v) (sym here) (r.each j v q);
      }

  pub marks : (n id i k : ℕ) (f : ℕ → ℕ) → 2 ≤ i → (me : Me (Option T) (View G E))
      → Allows (InOrder givens history owner all base) n id me i f (marked (step n i k 0 none) me)
  marks n id i k f far me s r one at small = (
    me.0,
    keeps,
    tt,
    subst (λ (vs : List (View G E)). InOrder givens history owner all base record
        { words = set s.words i (f (slice_index s.words i)); homes = s.homes; views = vs }) (sym (set_again s.views id me.0 at))
        (other_word s i (f (slice_index s.words i)) far r),
    refl,
  )
