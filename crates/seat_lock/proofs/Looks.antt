-- Looking for one's turn keeps the rule.
use Rattle.std.proofs.Common.{◌≡◌, ℕ, ◌+◌, ◌%◌, ◌^◌, List, [], ◌∷◌, set, sym, refl, ap, ◌∙◌, subst, arith}
use Rattle.std.specs.Prelude.{Option, Some, slice_index}
use mathlib.Core.Option.{some, none}
use mathlib.Core.Option as maybe
use mathlib.Core.Logic.{dite}
use native.Mathlib.Decide.{ℕ_discrete}
use lib.ListN.{get_elem?}
use Rattle.atomic_table.specs.Table.{State, Me, step, Allows, Act, keeps, takes, Valid, stepped, carried_after, rest}
use Rattle.atomic_table.proofs.Lists.{set_here, set_else, set_again}
use Rattle.seat_lock.specs.declared.view.Stage.{Stage}
use Rattle.seat_lock.specs.declared.view.Stage.TheVariants.{Idle, Waiting, Turn, Spent}
use Rattle.seat_lock.specs.declared.view.View.{View}
use Rattle.seat_lock.specs.Histories.{times, IsPrefix}
use Rattle.seat_lock.specs.Views.{in_use, holding, tickets, weight, turned_to}
use Rattle.seat_lock.specs.Rule.{Place, home, out, homes_at, Holds, Stands, Fits, InOrder}
use Rattle.seat_lock.specs.Steps.{Taken, Knows, looked}
use Rattle.seat_lock.proofs.Totals.{at_below, one_at, each_set, same_total, set_self}
use Rattle.seat_lock.proofs.Histories.{prefix_self}
use Rattle.seat_lock.proofs.Rounds.{round_first}
use Rattle.seat_lock.proofs.Kept.{line_short, knows_all}

module _ {T G E : Type 0} where
  -- where the seat waits, its place in line
  place_in_line : (served : ℕ) (log : List E) (line : List ℕ) (place : Place T) (j : ℕ) (v : View G E) (st : Stage) → st ≡ Waiting
      → Stands served log line place j v st → (k : ℕ) × (get_elem? line k ≡ some j) × (v.ticket ≡ (served + k) % 2 ^ 64)
  place_in_line served log line place j v st e h = subst (λ (x : Stage). Stands served log line place j v x) e h

  -- what the other seats' stages say, once the value is out with the first in line
  stands_out : (served : ℕ) (log : List E) (line : List ℕ) (x : T) (id j : ℕ) (v : View G E) (st : Stage) → Stands served log line (home x) j v st
      → Stands {T = T} served log line (out id) j v st
  stands_out served log line x id j v Idle h = tt
  stands_out served log line x id j v Waiting h = h
  stands_out served log line x id j v Turn h = let e = h.2 in cc
  stands_out served log line x id j v Spent h = h

module _ {T G E : Type 0} (givens : T → G) (history : T → List E) (owner : E → Option ℕ) (all : G) (base : ℕ) where
  abbrev L : State (Option T) (View G E) → Type 0
  L = InOrder givens history owner all base

  abbrev Hit : State (Option T) (View G E) → ℕ → View G E → T → Type 0
  Hit s id v x = L record { words = s.words; homes = none ∷ []; views = set s.views id (turned_to v (slice_index s.words 0) (history x)) }

  -- the first in line finds the value at home, and takes it
  hits : (id : ℕ) (v : View G E) (s : State (Option T) (View G E)) (r : L s) → v.stage ≡ Waiting → get_elem? s.views id ≡ some v
      → slice_index s.words 0 ≡ v.ticket
      → get_elem? r.line 0 ≡ some id → (x : T) → r.place ≡ home x → (history x ≡ r.log) × (givens x ≡ all) → Hit s id v x × Taken givens history owner v x
  hits id v s r waits at mine first x at_home lies =
      let served : ℕ = slice_index s.words 0 in
      let w : View G E = turned_to v served (history x) in
      let one : holding v.stage ≡ 1 = ap holding waits in
      let used : in_use v.stage ≡ 1 = ap in_use waits in
      let f = r.each id v at in (
        record {
          log = r.log;
          line = r.line;
          place = out id;
          wide = r.wide;
          next_is = r.next_is;
          homes_are = refl;
          holds = (w, set_here s.views id w (at_below s.views id v at), refl);
          in_line = λ k j q. let h = r.in_line k j q in dite (ℕ_discrete j id)
              (λ e. (
                w,
                subst (λ (i : ℕ). get_elem? (set s.views id w) i ≡ some w) (sym e) (set_here s.views id w (at_below s.views id v at)),
                refl,
                mine ∙ (ap (λ (u : View G E). u.ticket) (one_at s.views id v h.0 at (subst (λ (z : ℕ). get_elem? s.views z ≡ some h.0) e h.1)) ∙ h.3),
              ))
              (λ n. (h.0, set_else s.views id j w n ∙ h.1, h.2, h.3));
          counted = same_total (tickets {G = G} {E = E}) s.views id v w at (sym one) ∙ r.counted;
          whole = same_total (weight {G = G} {E = E}) s.views id v w at (omega arith) ∙ r.whole;
          grown = r.grown;
          old = λ y h. same_total (λ (u : View G E). times y u.mine) s.views id v w at refl ∙ r.old y h;
          new = λ y h i. same_total (λ (u : View G E). times y u.mine) s.views id v w at refl ∙ r.new y h i;
          future = λ y h. same_total (λ (u : View G E). times y u.mine) s.views id v w at refl ∙ r.future y h;
          each = each_set (λ j u. Fits {T = T} owner all base served r.log r.line (out id) j u) s.views id w
              record {
                stands = (first, refl, refl, lies.0);
                saw = f.saw;
                keeps = subst (λ (h : List E). IsPrefix h r.log) (sym lies.0) (prefix_self r.log);
                closed = f.closed;
                within = f.within;
                knows = λ _. f.knows used;
              }
              (λ i u _ p. let g = r.each i u p in record {
                stands = stands_out served r.log r.line x id i u u.stage (subst (λ (c : Place T). Stands served r.log r.line c i u u.stage) at_home g.stands);
                saw = g.saw;
                keeps = g.keeps;
                closed = g.closed;
                within = g.within;
                knows = g.knows;
              });
        },
        ((f.knows used).0 ∙ ap Some (sym lies.1), subst (Knows owner v) (sym lies.0) (knows_all givens history owner all base s r id v at used)),
      )

  abbrev Looks : ℕ → ℕ → Me (Option T) (View G E) → State (Option T) (View G E) → Type 0
  Looks n id me s = (w : View G E) × (a : Act (Option T)) × Valid s.homes me.1 a × L (stepped s 0 (slice_index s.words 0) id me.1 w a)
      × looked givens history owner (step n 0 0 0 none) me (slice_index s.words 0) (w, carried_after me.1 a)

  -- its ticket is served: the value can't be out with another seat, which would be first in line too
  hit_at : (n id : ℕ) (me : Me (Option T) (View G E)) (s : State (Option T) (View G E)) (r : L s) → me.0.stage ≡ Waiting → get_elem? s.views id ≡ some me.0
      → slice_index s.words 0 ≡ me.0.ticket
      → get_elem? r.line 0 ≡ some id → (p : Place T) → r.place ≡ p → Holds givens history all r.log s.views p → Looks n id me s
  hit_at n id me s r waits at mine first (home x) is lies =
      let served : ℕ = slice_index s.words 0 in
      let w : View G E = turned_to me.0 served (history x) in
      let homes : s.homes ≡ some (Some x) ∷ [] = r.homes_are ∙ ap homes_at is in
      let hit = hits id me.0 s r waits at mine first x is lies in (
        w,
        takes 0 (Some x),
        subst (λ (hs : List (maybe.Option (Option T))). get_elem? hs 0 ≡ some (some (Some x))) (sym homes) refl,
        subst (λ (hs : List (maybe.Option (Option T))). L record { words = set s.words 0 served; homes = hs; views = set s.views id w })
            (sym (ap (λ (hs : List (maybe.Option (Option T))). set hs 0 none) homes))
            (subst (λ (ws : List ℕ). L record { words = ws; homes = none ∷ []; views = set s.views id w }) (sym (set_self s.words 0)) hit.0),
        ((λ _. (x, refl, hit.1)), (λ miss. absurd (miss mine))),
      )
  hit_at n id me s r waits at mine first (out j) is lies =
      let g = r.each j lies.0 lies.1 in
      let turn : Stands (slice_index s.words 0) r.log r.line r.place j lies.0 Turn =
      subst (λ (st : Stage). Stands (slice_index s.words 0) r.log r.line r.place j lies.0 st) lies.2 g.stands in
      let same : j ≡ id = one_at r.line 0 j id turn.0 first in
      let still : lies.0 ≡ me.0 = one_at s.views id lies.0 me.0 (subst (λ (z : ℕ). get_elem? s.views z ≡ some lies.0) same lies.1) at in
      let clash : Turn ≡ Waiting = sym lies.2 ∙ (ap (λ (u : View G E). u.stage) still ∙ waits) in cc

  pub looks : (n id : ℕ) (me : Me (Option T) (View G E)) → me.0.stage ≡ Waiting
      → Allows L n id me 0 (λ k. k) (looked givens history owner (step n 0 0 0 none) me)
  looks n id me waits s r one at small =
      let served : ℕ = slice_index s.words 0 in
      let p = place_in_line served r.log r.line r.place id me.0 me.0.stage waits (r.each id me.0 at).stands in
      let short = line_short givens history owner all base s r in
      let low = at_below r.line p.0 id p.1 in
      dite (ℕ_discrete served me.0.ticket)
      (λ e.
      let zeroth : p.0 ≡ 0 = round_first served p.0 (2 ^ 64) small (omega arith) (sym p.2 ∙ sym e) in
      hit_at n id me s r waits at e (subst (λ (k : ℕ). get_elem? r.line k ≡ some id) zeroth p.1) r.place refl r.holds)
      (λ miss. (
        me.0,
        keeps,
        tt,
        subst (λ (vs : List (View G E)). L record { words = set s.words 0 served; homes = s.homes; views = vs }) (sym (set_again s.views id me.0 at))
            (subst (λ (ws : List ℕ). L record { words = ws; homes = s.homes; views = s.views }) (sym (set_self s.words 0)) r),
        ((λ hit. absurd (miss hit)), (λ _. refl)),
      ))

module _ {T V : Type 0} where
  -- the value that was taken last lies in the slot 0 of the seat
  pub in_hand : (w : V) (x : T) (c : List (ℕ × Option T)) (m : Me (Option T) V) → m ≡ (w, (0, Some x) ∷ c) → m.1 ≡ (0, Some x) ∷ rest m.1
  in_hand w x c m e = subst (λ (n : Me (Option T) V). n.1 ≡ (0, Some x) ∷ rest n.1) (sym e) refl
