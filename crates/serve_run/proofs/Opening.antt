-- The run's own seat enters first, and says `shutdown` last.
use Rattle.std.proofs.Common.{◌≡◌, ℕ, suc, ◌≤◌, Bool, true, false, not, ◌||◌, if◌then◌else◌, List, [], ◌∷◌, ◌++◌, length, reverse, Option, Some, None, Result, Ok, Err, refl, sym, ap, ◌∙◌, subst, inl, inr, ⊎_elim, arith}
use Rattle.std.proofs.lemmas.List.{length-reverse, reverse-reverse}
use mathlib.Core.Logic.{dite}
use mathlib.Core.Option.{some}
use native.Mathlib.Decide.{ℕ_discrete}
use lib.ListN.{get_elem?}
use Rattle.outside.specs.Accepting.{Standing}
use Rattle.outside.specs.Link.{Shown}
use Rattle.poa_base.specs.declared.Call.TheVariants.{Line}
use Rattle.poa_base.specs.declared.Command.TheVariants.{Shutdown}
use Rattle.poa_base.specs.declared.Entry.{Entry}
use Rattle.poa_base.specs.declared.Entry.TheVariants.{Entered, Arrive, Filled, Left}
use Rattle.poa_core.specs.Answers.{Arrives}
use Rattle.poa_history.specs.Life.{life_at, with_entry}
use Rattle.poa_core.specs.declared.arrive_fault.ArriveFault.{ArriveFault}
use Rattle.poa_core.specs.declared.arrive_fault.ArriveFault.TheVariants as arrive_fault
use Rattle.history_standing.specs.Arrivals.{connections}
use Rattle.poa_history.specs.Legal.{had_shutdown, is_filled}
use Rattle.poa_history.specs.Limits.{has_room, is_taken}
use Rattle.poa_shared.specs.Events.{Event}
use Rattle.poa_shared.specs.Seen.{past, Turns, HoldsConnection}
use Rattle.poa_history.specs.declared.givens.Givens.{Givens}
use Rattle.poa_history.specs.Owners.{worker_of}
use Rattle.seat_lock.specs.declared.view.View.{View}
use Rattle.seat_lock.specs.Histories.{times, In}
use Rattle.seat_lock.proofs.Totals.{one_at, times_else, times_here}
use Rattle.serve_run.proofs.Places.{in_first, newest_stands}
use Rattle.serve_run.specs.Tours.{Tour, Shift, conns_in}
use Rattle.serve_run.specs.Holding.{Holds, IsLast, IsWord}
use Rattle.serve_run.proofs.Staying.{holds_looked, holds_own, last_own}
use Rattle.serve_run.proofs.Numbers.{here_in, no_worker, one_in}

-- a `shutdown` that isn't taken isn't the first
had_before : (limit : ℕ) (h : List Entry) → is_taken limit h 8 (Line 1 Shutdown) ≡ false → had_shutdown h ≡ true
had_before limit h refused =
    elim (had_shutdown h) as (λ b. (not b || has_room limit h 8) ≡ false → b ≡ true) [
      | true ↦ λ _. refl
      | false ↦ λ is. absurd (let e : true ≡ false = is in cc)
    ] refused

no_length : (h : List Entry) → length h ≡ 0 → h ≡ []
no_length [] none = refl
no_length (e ∷ h) none = absurd (omega arith)

module _ {A L : Type 0} (g : Givens) (shown : L → Shown) (standing : A → Option (Standing L)) (faults ends : A → ℕ) where
  module _ (v w : View Givens Entry) (h : List Entry) (conn : ℕ) (fresh : v.mine ≡ []) (room : v.room ≡ 1024) (base : v.base ≡ 0) (t : Turns g v h w)
      (number : conn ≡ connections h) (is : past w ≡ Entered conn ∷ h) where
    mine : w.mine ≡ length h ∷ []
    mine = t.one_made (Entered conn) is ∙ ap (λ l. l ++ length h ∷ []) fresh

    seen_one : w.seen ≡ reverse (Entered conn ∷ h)
    seen_one = sym (reverse-reverse w.seen) ∙ ap reverse is

    -- the seat made every entry, and this is its only one
    nothing_before : h ≡ []
    nothing_before = no_length h
        (let long : length w.seen ≡ suc (length h) = ap length seen_one ∙ length-reverse (Entered conn ∷ h) in
        let there = t.knows.all_mine (t.room ∙ room) 0 (let b = t.base ∙ base in omega arith) (omega arith) in
        let at : 0 ≡ length h = one_in 0 (length h) (subst (In 0) mine there) in omega arith)

    pub is_first : conn ≡ 0
    is_first = number ∙ ap connections nothing_before

    stands : get_elem? w.seen (length h) ≡ some (Entered 0)
    stands = subst (λ l. get_elem? l (length h) ≡ some (Entered 0)) (sym seen_one) (newest_stands (Entered conn) h ∙ ap (λ k. some (Entered k)) is_first)

    pub holds_first : Holds {A = A} {L = L} g shown standing faults ends None [] [] w
    holds_first = record {
      ledger = record {
        explained = λ place there. (let at = one_in place (length h) (subst (In place) mine there) in
            record { entry = Entered 0; stands = subst (λ k. get_elem? w.seen k ≡ some (Entered 0)) (sym at) stands; of = inl (0, here_in 0, refl) });
        closed = t.knows.closed;
        within = t.knows.within;
        owned = λ c there. (let c_is = one_in c 0 there in
            record {
              place = length h;
              made = subst (In (length h)) (sym mine) (here_in (length h));
              entered = stands ∙ ap (λ k. some (Entered k)) (sym c_is);
            });
        once = λ c. once_at_most c;
      };
      turns_are = λ place k there at. absurd
          (let here = one_in place (length h) (subst (In place) mine there) in
          let first = one_at w.seen place (Entered 0) at.entry (subst (λ n. get_elem? w.seen n ≡ some (Entered 0)) (sym here) stands) at.stands in
          no_worker (Entered 0) 0 k refl (ap worker_of first ∙ at.own));
      tours_are = tt;
      shifts_are = tt;
      own_is = λ place e there at of. inl (let here = one_in place (length h) (subst (In place) mine there) in
          sym (one_at w.seen place (Entered 0) e (subst (λ k. get_elem? w.seen k ≡ some (Entered 0)) (sym here) stands) at));
    }
      where
        once_at_most : (c : ℕ) → times c (0 ∷ []) ≤ 1
        once_at_most c =
            dite (ℕ_discrete c 0)
            (λ (same : c ≡ 0). (let one = times_here 0 in let two : times c (0 ∷ []) ≡ times 0 (0 ∷ []) = ap (λ k. times k (0 ∷ [])) same in omega arith))
            (λ (other : c ≡ 0 → ⊥). (let none = times_else c 0 other in omega arith))

  module _ (tours : List (Tour A L)) (shifts : List Shift) (v : View Givens Entry)
      (holds : Holds {A = A} {L = L} g shown standing faults ends None tours shifts v) where
    -- its own connection is there
    pub connection_held : HoldsConnection v 0
    connection_held = record {
      owns = holds.ledger.owned 0 (in_first 0 (0 ∷ []) (conns_in tours) (here_in 0));
      staying = λ x there at. ⊎_elim
          (λ (first : Left 0 ≡ Entered 0). cc)
          (λ (none : None ≡ Some (x, Left 0)). cc)
          (holds.own_is x (Left 0) there at refl);
    }

    -- what comes of saying `shutdown`
    pub record IsSaid (w : View Givens Entry) : Type 0 where
      pub own : Option (ℕ × Entry)
      pub word : IsWord own
      pub holds_it : Holds {A = A} {L = L} g shown standing faults ends own tours shifts w
      pub last : IsLast {A = A} {L = L} own tours w

    module _ (w : View Givens Entry) (given : v.givens ≡ Some g) where
      nothing_said : (h : List Entry) → Turns g v h w → past w ≡ h → IsSaid w
      nothing_said h t is =
          record {
            own = None;
            word = tt;
            holds_it = holds_looked g shown standing faults ends tours shifts v w h t None is holds;
            last = record {
              ended = λ place e same. absurd (let f : None ≡ Some (place, e) = same in cc);
              left = λ place e same. absurd (let f : None ≡ Some (place, e) = same in cc);
              behind = λ place size same. absurd (let f : None ≡ Some (place, Filled 0 size) = same in cc);
            };
          }

      pub said : (r : Result ℕ ArriveFault) → Event (λ old new. Arrives 0 (Line 1 Shutdown) 8 old r new) v w → IsSaid w
      said (Ok r) event =
          (let it = event g given in
          let is : past w ≡ Arrive 0 8 (Line 1 Shutdown) ∷ it.0 = ap (λ l. l.history) it.2.2 in
          record {
            own = Some (length it.0, Arrive 0 8 (Line 1 Shutdown));
            word = inl refl;
            holds_it = holds_own g shown standing faults ends tours shifts v w it.0 it.1 (Arrive 0 8 (Line 1 Shutdown)) is refl holds;
            last = last_own g shown standing faults ends tours shifts v w it.0 it.1 (Arrive 0 8 (Line 1 Shutdown)) is refl holds
                (λ size (fills : Arrive 0 8 (Line 1 Shutdown) ≡ Filled 0 size). cc);
          })
      said (Err (arrive_fault.Limit calls bytes)) event =
          (let it = event g given in by_filled it.0 it.1 (had_before g.limit it.0 it.2.0) (is_filled it.0) it.2.1)
        where
          by_filled : (h : List Entry) → Turns g v h w → had_shutdown h ≡ true → (b : Bool)
              → life_at g (past w) ≡ (if b then life_at g h else with_entry (Filled 0 8) (life_at g h)) → IsSaid w
          by_filled h t had true is = nothing_said h t (ap (λ l. l.history) is)
          by_filled h t had false is =
              (let one : past w ≡ Filled 0 8 ∷ h = ap (λ l. l.history) is in
              record {
                own = Some (length h, Filled 0 8);
                word = inr refl;
                holds_it = holds_own g shown standing faults ends tours shifts v w h t (Filled 0 8) one refl holds;
                last = last_own g shown standing faults ends tours shifts v w h t (Filled 0 8) one refl holds (λ size fills. had);
              })
      said (Err arrive_fault.WantMemory) event = (let it = event g given in nothing_said it.0 it.1 (ap (λ l. l.history) it.2.1))
