-- The run's own seat sees more, or makes an entry of its own connection.
use Rattle.std.proofs.Common.{◌≡◌, ℕ, ◌≤◌, true, List, [], ◌∷◌, ◌++◌, length, reverse, Option, Some, None, sym, ap, ◌∙◌, subst, inl, inr, ⊎_elim, arith}
use Rattle.std.proofs.lemmas.List.{append-nil, length-reverse, reverse-append, reverse-reverse}
use mathlib.Core.List.{reverse-cons}
use mathlib.Core.Option.{some}
use lib.ListN.{get_elem?}
use Rattle.outside.specs.Accepting.{Standing}
use Rattle.outside.specs.Link.{Shown}
use Rattle.poa_base.specs.declared.Entry.{Entry}
use Rattle.poa_base.specs.declared.Entry.TheVariants.{Filled}
use Rattle.poa_shared.specs.Seen.{past, Turns}
use Rattle.poa_history.specs.declared.givens.Givens.{Givens}
use Rattle.poa_history.specs.Legal.{had_shutdown}
use Rattle.poa_history.specs.Owners.{owner_of, worker_of}
use Rattle.seat_lock.specs.declared.view.View.{View}
use Rattle.seat_lock.specs.Histories.{Belongs, In, IsClosed, IsPrefix}
use Rattle.seat_lock.proofs.Histories.{prefix_below, prefix_longer}
use Rattle.seat_lock.proofs.Lists.{at_last}
use Rattle.seat_lock.proofs.Totals.{in_added, one_at, times_here}
use Rattle.serve_run.proofs.Growing.{adds_behind, explained_more, owns_later, Adds}
use Rattle.serve_run.proofs.Places.{in_first, stood_before}
use Rattle.serve_run.specs.Tours.{Tour, Shift, conns_in, workers_in, EachToured, IsWorkersAt}
use Rattle.serve_run.specs.Holding.{AreBefore, Holds, IsLast, IsOwn}
use Rattle.serve_run.proofs.Closing.{belongs_before, closed_longer}
use Rattle.serve_run.proofs.Helping.{turns_more}
use Rattle.serve_run.proofs.JoiningDoors.{each_toured, each_worked}
use Rattle.serve_run.proofs.Lasting.{had_longer}
use Rattle.serve_run.proofs.Numbers.{here_in, no_worker}

some_pair : (k place : ℕ) (e d : Entry) → k ≡ place → e ≡ d → ◌≡◌ {A = Option (ℕ × Entry)} (Some (k, e)) (Some (place, d))
some_pair k place e d p q = λ i. Some (p i, q i)

pub place_of : (p q : ℕ × Entry) → Some p ≡ Some q → p.0 ≡ q.0
place_of p q same = (let e : p ≡ q = cc in ap (λ r. r.0) e)

pub entry_of : (p q : ℕ × Entry) → Some p ≡ Some q → p.1 ≡ q.1
entry_of p q same = (let e : p ≡ q = cc in ap (λ r. r.1) e)

module _ {A L : Type 0} (g : Givens) (shown : L → Shown) (standing : A → Option (Standing L)) (faults ends : A → ℕ) (tours : List (Tour A L))
    (shifts : List Shift) where
  abbrev HoldsIt : Option (ℕ × Entry) → View Givens Entry → Type 0
  HoldsIt own v = Holds {A = A} {L = L} g shown standing faults ends own tours shifts v

  -- it made nothing
  pub holds_same : (own : Option (ℕ × Entry)) (v w : View Givens Entry) → IsPrefix v.seen w.seen → w.mine ≡ v.mine → HoldsIt own v → HoldsIt own w
  holds_same own v w grows mine holds =
      let adds = adds_behind v w [] grows holds.ledger.within (mine ∙ sym (append-nil v.mine)) in
      record {
        ledger = record {
          explained =
              λ place there. explained_more (0 ∷ conns_in tours) (0 ∷ workers_in shifts) (0 ∷ conns_in tours) (0 ∷ workers_in shifts) v.seen w.seen place
              (λ c i. i) (λ k i. i) grows (holds.ledger.explained place (subst (In place) mine there));
          closed = subst (IsClosed owner_of w.seen) (sym mine) (closed_longer owner_of v.seen w.seen grows v.mine holds.ledger.within holds.ledger.closed);
          within =
              λ place there. (let low = holds.ledger.within place (subst (In place) mine there) in let long = prefix_below v.seen w.seen grows in omega arith);
          owned = λ c i. owns_later v w [] adds c (holds.ledger.owned c i);
          once = holds.ledger.once;
        };
        turns_are = turns_more v w [] adds (workers_in shifts) (workers_in shifts) (λ k i. i) (λ place k there. absurd (omega arith)) holds.turns_are;
        tours_are = each_toured v w [] adds g shown standing faults ends tours (λ c i place there b. omega arith) holds.tours_are;
        shifts_are = each_worked v w [] adds g shifts (λ k i place there at. omega arith) holds.shifts_are;
        own_is =
            λ place e there stands is.
            (let old = subst (In place) mine there in
            holds.own_is place e old (stood_before v.seen w.seen place e grows (holds.ledger.within place old) stands) is);
      }

  pub last_same : (own : Option (ℕ × Entry)) (v w : View Givens Entry) → IsPrefix v.seen w.seen → w.mine ≡ v.mine → HoldsIt own v
      → IsLast {A = A} {L = L} own tours v → IsLast {A = A} {L = L} own tours w
  last_same own v w grows mine holds last = record {
    ended = last.ended;
    left = λ place e is k c there i b.
        (let old = subst (In k) mine there in last.left place e is k c old i (belongs_before owner_of v.seen w.seen grows k c (holds.ledger.within k old) b));
    behind = λ place size is. had_longer v.seen w.seen grows (last.behind place size is);
  }

  module _ (v w : View Givens Entry) (h : List Entry) (t : Turns g v h w) where
    found_after : IsPrefix v.seen (reverse h)
    found_after = (
      reverse t.goes_on.more,
      ap reverse t.goes_on.is ∙ (reverse-append t.goes_on.more (past v) ∙ ap (λ l. l ++ reverse t.goes_on.more) (reverse-reverse v.seen)),
    )

    pub same_seen : past w ≡ h → IsPrefix v.seen w.seen
    same_seen is = subst (IsPrefix v.seen) (sym (sym (reverse-reverse w.seen) ∙ ap reverse is)) found_after

    pub holds_looked : (own : Option (ℕ × Entry)) → past w ≡ h → HoldsIt own v → HoldsIt own w
    holds_looked own is = holds_same own v w (same_seen is) (t.none_made is)

    -- it made an entry of its own connection
    module _ (e : Entry) (is : past w ≡ e ∷ h) (of : owner_of e ≡ Some 0) (holds : HoldsIt None v) where
      seen_one : w.seen ≡ reverse h ++ e ∷ []
      seen_one = sym (reverse-reverse w.seen) ∙ (ap reverse is ∙ reverse-cons e h)

      grows : IsPrefix v.seen w.seen
      grows = subst (IsPrefix v.seen) (sym seen_one) (prefix_longer v.seen (reverse h) (e ∷ []) found_after)

      one_stands : get_elem? w.seen (length h) ≡ some e
      one_stands = subst (λ l. get_elem? l (length h) ≡ some e) (sym seen_one) (at_last (reverse h) e (length h) (length-reverse h))

      longer : length v.seen ≤ length h
      longer = (let low = prefix_below v.seen (reverse h) found_after in let same = length-reverse h in omega arith)

      mine : w.mine ≡ v.mine ++ length h ∷ []
      mine = t.one_made e is

      adds : Adds v w (length h ∷ [])
      adds = adds_behind v w (length h ∷ []) grows holds.ledger.within mine

      -- what stands at the new place is this entry
      only : (place : ℕ) (d : Entry) → place ≡ length h → get_elem? w.seen place ≡ some d → e ≡ d
      only place d at stands = one_at w.seen place e d (subst (λ k. get_elem? w.seen k ≡ some e) (sym at) one_stands) stands

      new_place : (place : ℕ) → In place (length h ∷ []) → place ≡ length h
      new_place place there = ⊎_elim (λ (none : In place []). absurd (omega arith)) (λ (same : place ≡ length h). same) (in_added place (length h) [] there)

      not_other : (c : ℕ) → In c (conns_in tours) → (place : ℕ) → In place (length h ∷ []) → Belongs owner_of w.seen place c → ⊥
      not_other c i place there b =
          let same : e ≡ b.0 = only place b.0 (new_place place there) b.1 in
          let zero : Some 0 ≡ Some c = sym of ∙ (ap owner_of same ∙ b.2) in
          let c_is : 0 ≡ c = cc in
          let once = holds.ledger.once 0 in
          let there' : In 0 (conns_in tours) = subst (λ k. In k (conns_in tours)) (sym c_is) i in
          let here = times_here 0 in omega arith

      none_works : (k place : ℕ) → In place (length h ∷ []) → IsWorkersAt k w.seen place → ⊥
      none_works k place there at = no_worker e 0 k of (ap worker_of (only place at.entry (new_place place there) at.stands) ∙ at.own)

      pub holds_own : HoldsIt (Some (length h, e)) w
      holds_own = record {
        ledger = record {
          explained = λ place there. ⊎_elim
              (λ (i : In place v.mine). explained_more (0 ∷ conns_in tours) (0 ∷ workers_in shifts) (0 ∷ conns_in tours)
              (0 ∷ workers_in shifts) v.seen w.seen place (λ c k. k) (λ k x. x) grows (holds.ledger.explained place i))
              (λ (at : place ≡ length h). record {
                entry = e;
                stands = subst (λ k. get_elem? w.seen k ≡ some e) (sym at) one_stands;
                of = inl (0, in_first 0 (0 ∷ []) (conns_in tours) (here_in 0), of);
              })
              (in_added place (length h) v.mine (subst (In place) mine there));
          closed = t.knows.closed;
          within = t.knows.within;
          owned = λ c i. owns_later v w (length h ∷ []) adds c (holds.ledger.owned c i);
          once = holds.ledger.once;
        };
        turns_are =
            turns_more v w (length h ∷ []) adds (workers_in shifts) (workers_in shifts) (λ k i. i)
            (λ place k there at. absurd (none_works k place there at)) holds.turns_are;
        tours_are = each_toured v w (length h ∷ []) adds g shown standing faults ends tours not_other holds.tours_are;
        shifts_are = each_worked v w (length h ∷ []) adds g shifts (λ k i. none_works k) holds.shifts_are;
        own_is = λ place d there stands is_own. ⊎_elim
            (λ (i : In place v.mine). own_before place d
            (holds.own_is place d i (stood_before v.seen w.seen place d grows (holds.ledger.within place i) stands) is_own))
            (λ (at : place ≡ length h). inr (some_pair (length h) place e d (sym at) (only place d at stands)))
            (in_added place (length h) v.mine (subst (In place) mine there));
      }
        where
          own_before : (place : ℕ) (d : Entry) → IsOwn None place d → IsOwn (Some (length h, e)) place d
          own_before place d (inl first) = inl first
          own_before place d (inr none) = absurd (let f : None ≡ Some (place, d) = none in cc)

      before : (n : ℕ) → length v.seen ≤ n → (some_tours : List (Tour A L)) → EachToured {A = A} {L = L} g shown standing faults ends some_tours v
          → AreBefore {A = A} {L = L} n some_tours
      before n far [] each = tt
      before n far (t ∷ more) each = ((let low = prefix_below t.stood v.seen each.0.later in omega arith), before n far more each.1)

      -- it fills the run only behind a `shutdown`
      pub last_own : ((size : ℕ) → e ≡ Filled 0 size → had_shutdown h ≡ true) → IsLast {A = A} {L = L} (Some (length h, e)) tours w
      last_own had = record {
        ended = λ place d same.
            (let at : length h ≡ place = place_of (length h, e) (place, d) same in let far = longer in before place (omega arith) tours holds.tours_are);
        left = λ place d same k c there i b.
            (let at : length h ≡ place = place_of (length h, e) (place, d) same in
            ⊎_elim
            (λ (old : In k v.mine). (let low = holds.ledger.within k old in let far = longer in omega arith))
            (λ (new : k ≡ length h). absurd (not_other c i k (subst (λ x. In x (length h ∷ [])) (sym new) (here_in (length h))) b))
            (in_added k (length h) v.mine (subst (In k) mine there)));
        behind = λ place size same.
            (let fills : e ≡ Filled 0 size = entry_of (length h, e) (place, Filled 0 size) same in
            subst (λ l. had_shutdown l ≡ true) (sym is) (subst (λ d. had_shutdown (d ∷ h) ≡ true) (sym fills) (had size fills)));
      }
