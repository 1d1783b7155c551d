-- What the rule says of one seat, for the proofs of all steps.
use Rattle.std.proofs.Common.{◌≡◌, ℕ, ◌<◌, ◌≤◌, ◌≢◌, List, [], ◌∷◌, ◌++◌, length, set, ◌∙◌, subst, lt_of_not-le, arith}
use Rattle.std.specs.Prelude.{Option}
use mathlib.Core.Option.{some}
use mathlib.Core.Logic.{dite}
use native.Mathlib.Decide.{ℕ_discrete, dec_le}
use lib.ListN.{get_elem?}
use Rattle.atomic_table.specs.Table.{State}
use Rattle.atomic_table.proofs.Lists.{at_longer, set_else}
use Rattle.seat_lock.specs.declared.view.Stage.{Stage}
use Rattle.seat_lock.specs.declared.view.Stage.TheVariants.{Idle, Waiting, Turn, Spent}
use Rattle.seat_lock.specs.declared.view.View.{View}
use Rattle.seat_lock.specs.Histories.{total, times, In, entering, OwnsAll}
use Rattle.seat_lock.specs.Views.{in_use, holding, tickets, weight}
use Rattle.seat_lock.specs.Rule.{Place, home, out, Holds, Stands, InOrder}
use Rattle.seat_lock.specs.Steps.{Knows}
use Rattle.seat_lock.proofs.Totals.{at_below, one_at, total_at, total_two, total_some, total_le}
use Rattle.seat_lock.proofs.Histories.{prefix_below, entering_least}

pub holding_le : (st : Stage) → holding st ≤ in_use st
holding_le Idle = omega arith
holding_le Waiting = omega arith
holding_le Turn = omega arith
holding_le Spent = omega arith

module _ {T G E : Type 0} where
  -- a place in line stays what it is as the line grows
  pub stands_longer : (served : ℕ) (log : List E) (line more : List ℕ) (place : Place T) (j : ℕ) (v : View G E) (st : Stage)
      → Stands served log line place j v st → Stands served log (line ++ more) place j v st
  stands_longer served log line more place j v Idle h = tt
  stands_longer served log line more place j v Waiting h = (h.0, at_longer line more h.0 j h.1, h.2)
  stands_longer served log line more place j v Turn h = (at_longer line more 0 j h.0, h.1, h.2, h.3)
  stands_longer served log line more place j v Spent h = h

  -- a spent seat made nothing
  pub spent_mine : (served : ℕ) (log : List E) (line : List ℕ) (place : Place T) (j : ℕ) (v : View G E) (st : Stage) → in_use st ≡ 0
      → Stands served log line place j v st → v.mine ≡ []
  spent_mine served log line place j v Idle z h = absurd (omega arith)
  spent_mine served log line place j v Waiting z h = absurd (omega arith)
  spent_mine served log line place j v Turn z h = absurd (omega arith)
  spent_mine served log line place j v Spent z h = h.1

module _ {T G E : Type 0} (givens : T → G) (history : T → List E) (all : G) (log : List E) (views : List (View G E)) where
  -- the value stays where it is as a seat without it changes
  pub holds_still : (id : ℕ) (v w : View G E) → get_elem? views id ≡ some v → v.stage ≢ Turn → (place : Place T) → Holds givens history all log views place
      → Holds givens history all log (set views id w) place
  holds_still id v w at not (home x) h = h
  holds_still id v w at not (out j) h = (
    h.0,
    set_else views id j w (λ e. not (subst (λ (u : View G E). u.stage ≡ Turn)
        (one_at views id h.0 v (subst (λ (z : ℕ). get_elem? views z ≡ some h.0) e h.1) at) h.2)) ∙ h.1,
    h.2,
  )

  pub holds_longer : (w : View G E) (place : Place T) → Holds givens history all log views place → Holds givens history all log (views ++ w ∷ []) place
  holds_longer w (home x) h = h
  holds_longer w (out j) h = (h.0, at_longer views (w ∷ []) j h.0 h.1, h.2)

module _ {T G E : Type 0} (givens : T → G) (history : T → List E) (owner : E → Option ℕ) (all : G) (base : ℕ) (s : State (Option T) (View G E))
    (r : InOrder givens history owner all base s) where
  -- fewer tickets than numbers
  pub line_short : length r.line ≤ 1025
  line_short = let h = total_le (tickets {G = G} {E = E}) weight (λ v. let l = holding_le v.stage in omega arith) s.views in let c = r.counted in
      let w = r.whole in omega arith

  -- no entry was made twice
  pub made_once : (x : ℕ) → total (λ (u : View G E). times x u.mine) s.views ≤ 1
  made_once x = dite (dec_le base x)
      (λ low. dite (dec_le (length r.log) x) (λ far. let z = r.future x far in omega arith) (λ near. let z = r.new x low (lt_of_not-le near) in omega arith))
      (λ old. let z = r.old x (lt_of_not-le old) in omega arith)

  module _ (j : ℕ) (v : View G E) (at : get_elem? s.views j ≡ some v) where
    -- a seat with no ticket isn't in line
    pub not_in_line : holding v.stage ≡ 0 → (k i : ℕ) → get_elem? r.line k ≡ some i → i ≢ j
    not_in_line none k i q e =
        let h = r.in_line k i q in
        let same : h.0 ≡ v = one_at s.views j h.0 v (subst (λ (z : ℕ). get_elem? s.views z ≡ some h.0) e h.1) at in
        let one : holding v.stage ≡ 1 = subst (λ (u : View G E). holding u.stage ≡ 1) same h.2 in
        omega arith

    pub mine_low : (x : ℕ) → In x v.mine → base ≤ x
    mine_low x i =
        dite (dec_le base x) (λ h. h)
        (λ h. let t = total_at (λ (u : View G E). times x u.mine) s.views j v at in let z = r.old x (lt_of_not-le h) in absurd (omega arith))

    pub mine_high : (x : ℕ) → In x v.mine → x < length r.log
    mine_high x i = let f = r.each j v at in let h = f.within x i in let p = prefix_below v.seen r.log f.saw in omega arith

    -- an entry stands in one seat's own list alone
    pub mine_alone : (x i : ℕ) (w : View G E) → get_elem? s.views i ≡ some w → In x v.mine → In x w.mine → i ≡ j
    mine_alone x i w at' here there = dite (ℕ_discrete i j) (λ e. e) (λ n.
        let t = total_two (λ (u : View G E). times x u.mine) s.views i j w v n at' at in
        let one = r.new x (mine_low x here) (mine_high x here) in absurd (omega arith))

    -- who made the entering entry made every entry of the connection
    pub owns : OwnsAll owner r.log v.mine
    owns x c b enters =
        let low = mine_low (entering owner c r.log) enters in
        let least = entering_least owner c r.log x b in
        let high : x < length r.log = at_below r.log x b.0 b.1 in
        let one = r.new x (omega arith) high in
        let t = total_some (λ (u : View G E). times x u.mine) s.views (omega arith) in
        let closed : In (entering owner c r.log) t.1.mine = (r.each t.0 t.1 t.2).closed x c t.3 b in
        let same : t.0 ≡ j = mine_alone (entering owner c r.log) t.0 t.1 t.2 enters closed in
        subst (λ (u : View G E). In x u.mine) (one_at s.views j t.1 v (subst (λ (z : ℕ). get_elem? s.views z ≡ some t.1) same t.2) at) t.3

    -- the seat with all the room made every entry that the first value didn't have
    pub has_all : v.room ≡ 1024 → in_use v.stage ≡ 1 → (x : ℕ) → base ≤ x → x < length r.log → In x v.mine
    has_all full used x low high =
        let one = r.new x low high in
        let t = total_some (λ (u : View G E). times x u.mine) s.views (omega arith) in
        dite (ℕ_discrete t.0 j)
        (λ e. subst (λ (u : View G E). In x u.mine) (one_at s.views j t.1 v (subst (λ (z : ℕ). get_elem? s.views z ≡ some t.1) e t.2) at) t.3)
        (λ n.
        let two = total_two (weight {G = G} {E = E}) s.views t.0 j t.1 v n t.2 at in
        let whole = r.whole in
        let gone : in_use t.1.stage ≡ 0 = omega arith in
        let none : t.1.mine ≡ [] = spent_mine _ r.log r.line r.place t.0 t.1 t.1.stage gone (r.each t.0 t.1 t.2).stands in
        let here : In x [] = subst (λ (m : List ℕ). In x m) none t.3 in absurd (omega arith))

    -- all that a seat in use knows of the one history
    pub knows_all : in_use v.stage ≡ 1 → Knows owner v r.log
    knows_all used = let f = r.each j v at in record {
      saw = f.saw;
      closed = f.closed;
      owns = owns;
      within = f.within;
      all_mine = λ full x low high. has_all full used x (subst (λ (b : ℕ). b ≤ x) (f.knows used).1 low) high;
    }
