-- The rule has the parts that its readers are told of.
use Rattle.std.proofs.Common.{◌≡◌, ℕ, ◌+◌, ◌%◌, ◌^◌, ◌<◌, ◌==◌, Bool, true, false, cond, List, [], ◌∷◌, sym, refl, ap, ◌∙◌, subst, eq-eqb, mod-eq_of_lt, arith}
use Rattle.std.specs.Prelude.{Option, Some, slice_index}
use Rattle.std.proofs.lemmas.Bool.{eqb-true}
use mathlib.Core.Option.{some, none}
use mathlib.Core.Logic.{dite}
use native.Mathlib.Decide.{ℕ_discrete}
use lib.ListN.{get_elem?}
use Rattle.atomic_table.specs.Table.{State}
use Rattle.seat_lock.specs.declared.view.Stage.{Stage}
use Rattle.seat_lock.specs.declared.view.Stage.TheVariants.{Idle, Waiting, Turn, Spent}
use Rattle.seat_lock.specs.declared.view.View.{View}
use Rattle.seat_lock.specs.Histories.{total, times}
use Rattle.seat_lock.specs.Views.{holding, tickets}
use Rattle.seat_lock.specs.Rule.{Place, home, out, homes_at, Holds, Stands, InOrder}
use Rattle.seat_lock.specs.Parts.{has_ticket, SomeTurn, Parts}
use Rattle.seat_lock.proofs.Totals.{at_below, at_there, one_at, total_some, total_one}
use Rattle.seat_lock.proofs.Rounds.{round_same}
use Rattle.seat_lock.proofs.Kept.{line_short, mine_low, mine_high, made_once, owns}

module _ {T G E : Type 0} where
  -- the place in line of a seat that holds a ticket
  place_of : (served : ℕ) → served < 2 ^ 64 → (log : List E) (line : List ℕ) (place : Place T) (j : ℕ) (v : View G E) (st : Stage) → holding st ≡ 1
      → Stands served log line place j v st
      → (k : ℕ) × (get_elem? line k ≡ some j) × (v.ticket ≡ (served + k) % 2 ^ 64)
  place_of served small log line place j v Idle one h = absurd (omega arith)
  place_of served small log line place j v Waiting one h = h
  place_of served small log line place j v Turn one h = (0, h.0, h.1 ∙ (sym (mod-eq_of_lt small) ∙ ap (λ (z : ℕ). z % 2 ^ 64) (omega arith)))
  place_of served small log line place j v Spent one h = absurd (omega arith)

  turn_of : (served : ℕ) (log : List E) (line : List ℕ) (place : Place T) (j : ℕ) (v : View G E) (st : Stage) → st ≡ Turn → Stands served log line place j v st
      → (v.ticket ≡ served) × (place ≡ out j) × (v.kept ≡ log)
  turn_of served log line place j v st e h = let t = subst (λ (x : Stage). Stands served log line place j v x) e h in (t.1, t.2, t.3)

  spent_of : (served : ℕ) (log : List E) (line : List ℕ) (place : Place T) (j : ℕ) (v : View G E) (st : Stage) → st ≡ Spent
      → Stands served log line place j v st → (v.seen ≡ []) × (v.mine ≡ []) × (v.room ≡ 0)
  spent_of served log line place j v st e h = subst (λ (x : Stage). Stands served log line place j v x) e h

module _ {G E : Type 0} where
  -- 1 for who holds the ticket, 0 for who holds another one or none
  one_ticket : (n : ℕ) (v : View G E) → v.ticket ≡ n → has_ticket n v ≡ holding v.stage
  one_ticket n v e = ap (λ (t : Bool). cond t (holding v.stage) 0) (eq-eqb v.ticket n e)

  ticket_is : (n : ℕ) (v : View G E) → 0 < has_ticket n v → (v.ticket ≡ n) × (0 < holding v.stage)
  ticket_is n v = (elim (v.ticket == n) as (λ t. (v.ticket == n) ≡ t → 0 < cond t (holding v.stage) 0 → (v.ticket ≡ n) × (0 < holding v.stage)) [
    | true ↦ λ e h. (eqb-true v.ticket n e, h)
    | false ↦ λ e h. absurd (omega arith)
  ]) refl

holding_one : (st : Stage) → 0 < holding st → holding st ≡ 1
holding_one Idle h = absurd (omega arith)
holding_one Waiting h = refl
holding_one Turn h = refl
holding_one Spent h = absurd (omega arith)

module _ {T G E : Type 0} (givens : T → G) (history : T → List E) (owner : E → Option ℕ) (all : G) (base : ℕ) (s : State (Option T) (View G E))
    (r : InOrder givens history owner all base s) where
  -- no value is at home while a seat has it
  no_home : (x : T) (j : ℕ) → r.place ≡ out j → s.homes ≡ some (Some x) ∷ [] → ⊥
  no_home x j is e = let both : none ∷ [] ≡ some (Some x) ∷ [] = ap homes_at (sym is) ∙ (sym r.homes_are ∙ e) in cc

  -- the value at home is the one that the rule speaks of
  home_is : (x : T) → s.homes ≡ some (Some x) ∷ [] → (p : Place T) → r.place ≡ p → Holds givens history all r.log s.views p → (history x ≡ r.log)
      × (givens x ≡ all)
  home_is x e (home y) is h = let both : some (Some y) ∷ [] ≡ some (Some x) ∷ [] = ap homes_at (sym is) ∙ (sym r.homes_are ∙ e) in let same : y ≡ x = cc in
      subst (λ (z : T). (history z ≡ r.log) × (givens z ≡ all)) same h
  home_is x e (out j) is h = absurd (no_home x j is e)

  home_or_turn : (p : Place T) → r.place ≡ p → Holds givens history all r.log s.views p → (SomeTurn s.views → ⊥) → (x : T) × (s.homes ≡ some (Some x) ∷ [])
  home_or_turn (home x) is h no_turn = (x, r.homes_are ∙ ap homes_at is)
  home_or_turn (out j) is h no_turn = absurd (no_turn (j, h.0, h.1, h.2))

  module _ (small : slice_index s.words 0 < 2 ^ 64) where
    place_at : (j : ℕ) (v : View G E) → get_elem? s.views j ≡ some v → holding v.stage ≡ 1 → (k : ℕ) × (get_elem? r.line k ≡ some j)
        × (v.ticket ≡ (slice_index s.words 0 + k) % 2 ^ 64)
    place_at j v at one = place_of (slice_index s.words 0) small r.log r.line r.place j v v.stage one (r.each j v at).stands

    once : (k : ℕ) → k < total tickets s.views → total (has_ticket ((slice_index s.words 0 + k) % 2 ^ 64)) s.views ≡ 1
    once k low =
        let served : ℕ = slice_index s.words 0 in
        let n : ℕ = (served + k) % 2 ^ 64 in
        let counted = r.counted in
        let short = line_short givens history owner all base s r in
        let t = at_there r.line k (omega arith) in
        let h = r.in_line k t.0 t.1 in
        total_one (has_ticket n) s.views t.0 h.0 h.1 (one_ticket n h.0 h.3 ∙ h.2) (λ i u at other. dite (ℕ_discrete (has_ticket n u) 0) (λ z. z) (λ z.
        let q = ticket_is n u (omega arith) in
        let p = place_at i u at (holding_one u.stage q.1) in
        let near = at_below r.line p.0 i p.1 in
        let same : p.0 ≡ k = round_same served p.0 k (2 ^ 64) (omega arith) (omega arith) (sym p.2 ∙ q.0) in
        absurd (other (one_at r.line k i t.0 (subst (λ (z : ℕ). get_elem? r.line z ≡ some i) same p.1) t.1))))

    pub in_words : Parts givens history owner all base s
    in_words = record {
      log = r.log;
      one_history = record {
        at_home = λ x e. (home_is x e r.place refl r.holds).0;
        taken = λ j v at turn. (turn_of (slice_index s.words 0) r.log r.line r.place j v v.stage turn (r.each j v at).stands).2;
      };
      next_ticket = r.next_is ∙ ap (λ (z : ℕ). (slice_index s.words 0 + z) % 2 ^ 64) (sym r.counted);
      tickets_between = λ j v at one. let p = place_at j v at one in let near = at_below r.line p.0 j p.1 in let c = r.counted in (p.0, omega arith, p.2);
      tickets_once = once;
      rooms = r.whole;
      turn_is_served = λ j v at turn. (turn_of (slice_index s.words 0) r.log r.line r.place j v v.stage turn (r.each j v at).stands).0;
      slot_is_home = (
        (λ h t. no_home h.0 t.0 (turn_of (slice_index s.words 0) r.log r.line r.place t.0 t.1 t.1.stage t.3 (r.each t.0 t.1 t.2).stands).1 h.1),
        home_or_turn r.place refl r.holds,
      );
      seen_begins = λ j v at. (r.each j v at).saw;
      made_once = made_once givens history owner all base s r;
      made_is_new = λ j x v at i. (mine_low givens history owner all base s r j v at x i, mine_high givens history owner all base s r j v at x i);
      new_is_made = λ x low high. let one = r.new x low high in total_some (λ (u : View G E). times x u.mine) s.views (omega arith);
      each_closed = λ j v at. (r.each j v at).closed;
      spent_is_empty = λ j v at spent. let e = spent_of (slice_index s.words 0) r.log r.line r.place j v v.stage spent (r.each j v at).stands in
          (ap holding spent, e.0, e.1, e.2);
      same_givens = λ j v at used. ((r.each j v at).knows used).0;
      home_givens = λ x e. (home_is x e r.place refl r.holds).1;
      each_owns_all = λ j v at. owns givens history owner all base s r j v at;
    }
