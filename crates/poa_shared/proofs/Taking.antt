-- A call that takes the core, makes at most one entry, and puts it back is one event.
use Rattle.std.proofs.Common.{◌≡◌, ℕ, [], ◌∷◌, ◌++◌, length, reverse, refl, sym, ap, ap₂, subst, ◌∙◌, inl, inr, ⊎_elim, arith}
use Rattle.std.specs.Prelude.{Some, Result, Ok, Err, IfOk}
use Rattle.history_standing.specs.Arrivals.{connections}
use Rattle.poa_core.specs.Answers.{Enters}
use Rattle.poa_core.specs.declared.enter_fault.EnterFault.{EnterFault}
use Rattle.poa_history.proofs.Owned.{owners_low}
use Rattle.seat_lock.proofs.Lists.{at_last}
use Rattle.std.proofs.lemmas.List.{length-reverse, reverse-reverse}
use mathlib.Core.Option.{some}
use lib.ListN.{get_elem?}
use Rattle.poa_base.specs.declared.Entry.{Entry}
use Rattle.poa_base.specs.declared.Entry.TheVariants.{Entered, Left}
use Rattle.seat_lock.specs.declared.view.View.{View}
use Rattle.seat_lock.specs.Histories.{In, IsPrefix, MayPut}
use Rattle.seat_lock.specs.Steps.{Knows}
use Rattle.seat_lock.specs.Views.{passed_on, turned_to}
use Rattle.seat_lock.proofs.Calls.{at_prefix, in_made, put_begins}
use Rattle.seat_lock.proofs.Histories.{made_none, made_one, prefix_through}
use Rattle.seat_lock.proofs.Totals.{at_below, at_push, in_added, in_last}
use Rattle.poa_history.specs.declared.givens.Givens.{Givens}
use Rattle.poa_history.specs.Owners.{owner_of}
use Rattle.poa_history.specs.GivenRuns.{IsHistory}
use Rattle.poa_history.specs.Life.{Life, givens_of, life_at, with_entry}
use Rattle.poa_shared.specs.Events.{Event}
use Rattle.poa_shared.specs.Seen.{HoldsConnection, Owns, Turns, past}
use Rattle.poa_shared.proofs.Holding.{goes_on}
use Rattle.poa_shared.proofs.Made.{IsMade}
use Rattle.poa_shared.proofs.Places.{at_reversed, at_shorter, reverse_more}

-- the seat once it took the run x and put the run y
abbrev after : View Givens Entry → ℕ → Life → Life → View Givens Entry
after v n x y = passed_on (turned_to v n (reverse x.history)) (reverse y.history)

module _ (v : View Givens Entry) (x y : Life) (made : IsMade v x y) where
  pub may_put : MayPut owner_of (reverse x.history) v.mine (reverse y.history)
  may_put =
      ⊎_elim
      (λ (same : y ≡ x). inl (ap (λ (l : Life). reverse l.history) same))
      (λ (more : (e : Entry) × (y ≡ with_entry e x) × _). inr (more.0, ap (λ (l : Life). reverse l.history) more.1 ∙ reverse_more more.0 x.history, more.2))
      made

  pub same_givens : givens_of y ≡ givens_of x
  same_givens = ⊎_elim (λ (same : y ≡ x). ap givens_of same) (λ (more : (e : Entry) × (y ≡ with_entry e x) × _). ap givens_of more.1) made

  module _ (n : ℕ) (k : Knows owner_of v (reverse x.history)) where
    begins : IsPrefix v.seen (reverse y.history)
    begins = prefix_through v.seen (reverse x.history) (reverse y.history) k.saw (put_begins owner_of v.mine (reverse x.history) (reverse y.history) may_put)

    owned_after : (c : ℕ) → Owns v c → Owns (after v n x y) c
    owned_after c owns =
        record {
          place = owns.place;
          made = in_made owns.place v.mine (reverse x.history) (reverse y.history) owns.made;
          entered = at_prefix v.seen (reverse y.history) owns.place (Entered c) begins owns.entered;
        }

    -- an own position of the new history is an old one, or that of the new entry
    held_after : (c : ℕ) → HoldsConnection v c → (past (after v n x y) ≡ Left c ∷ x.history → ⊥) → HoldsConnection (after v n x y) c
    held_after c holds stays =
        record {
          owns = owned_after c holds.owns;
          staying = ⊎_elim
              (λ (same : y ≡ x) z there at. old z
              (subst (In z) (made_none v.mine (reverse x.history) (reverse y.history) (ap (λ (l : Life). reverse l.history) same)) there) at)
              (λ (more : (e : Entry) × (y ≡ with_entry e x) × _) z there at.
              (let longer : reverse y.history ≡ reverse x.history ++ more.0 ∷ [] = ap (λ (l : Life). reverse l.history) more.1
              ∙ reverse_more more.0 x.history in
              ⊎_elim (λ (was : In z v.mine). old z was at)
              (λ (is : z ≡ length (reverse x.history)). stays (new more.0 more.1 z is (subst (λ l. get_elem? l z ≡ some (Left c)) longer at)))
              (in_added z (length (reverse x.history)) v.mine (subst (In z) (made_one v.mine (reverse x.history) more.0 (reverse y.history) longer) there))))
              made;
        }
      where
        old : (z : ℕ) → In z v.mine → get_elem? (reverse y.history) z ≡ some (Left c) → ⊥
        old z there at = holds.staying z there (at_shorter v.seen (reverse y.history) z (Left c) begins (k.within z there) at)

        new : (e : Entry) → y ≡ with_entry e x → (z : ℕ) → z ≡ length (reverse x.history) → get_elem? (reverse x.history ++ e ∷ []) z ≡ some (Left c)
            → reverse (reverse y.history) ≡ Left c ∷ x.history
        new e more z is at =
            ⊎_elim
            (λ (low : get_elem? (reverse x.history) z ≡ some (Left c)). absurd
            (let below = at_below (reverse x.history) z (Left c) low in omega (arith, below, is)))
            (λ (here : (z ≡ length (reverse x.history)) × (e ≡ Left c)). reverse-reverse y.history
            ∙ (ap (λ (l : Life). l.history) more ∙ ap (λ d. d ∷ x.history) here.1))
            (at_push (reverse x.history) e (Left c) z at)

    module _ (known : Knows owner_of (after v n x y) (reverse y.history)) (runs : IsHistory (givens_of y) y.history) where
      turned : (g : Givens) → givens_of x ≡ g → Turns g v x.history (after v n x y)
      turned g same =
          record {
            goes_on = goes_on v x.history k;
            runs = subst (λ h. IsHistory g h) (sym (reverse-reverse y.history)) (subst (λ a. IsHistory a y.history) (same_givens ∙ same) runs);
            none_made = λ is. made_none v.mine (reverse x.history) (reverse y.history) (sym (reverse-reverse (reverse y.history)) ∙ ap reverse is);
            one_made =
                λ e is. made_one v.mine (reverse x.history) e (reverse y.history)
                (sym (reverse-reverse (reverse y.history)) ∙ (ap reverse is ∙ reverse_more e x.history))
                ∙ ap (λ m. v.mine ++ m ∷ []) (length-reverse x.history);
            knows = known;
            given = refl;
            base = refl;
            room = refl;
            owned = owned_after;
            kept = held_after;
          }

      pub is_event : (P : Life → Life → Type 0) → v.givens ≡ Some (givens_of x) → P x y → Event P v (after v n x y)
      is_event P given p g shown =
          (let both : Some (givens_of x) ≡ Some g = sym given ∙ shown in let same : givens_of x ≡ g = cc in
          let first : x ≡ life_at g x.history = ap (λ a. life_at a x.history) same in
          let second : y ≡ life_at g (reverse (reverse y.history)) = ap₂ life_at (same_givens ∙ same) (sym (reverse-reverse y.history)) in
          (x.history, turned g same, subst (λ l. P l (life_at g (reverse (reverse y.history)))) first (subst (P x) second p)))

-- what `put` asks, of the seat that took the run
module _ (v u : View Givens Entry) (n : ℕ) (x y : Life) (took : u ≡ turned_to v n (reverse x.history)) (made : IsMade v x y) where
  pub put_history : MayPut owner_of u.kept u.mine (reverse y.history)
  put_history = subst (λ (t : View Givens Entry). MayPut owner_of t.kept t.mine (reverse y.history)) (sym took) (may_put v x y made)

  pub put_givens : v.givens ≡ Some (givens_of x) → u.givens ≡ Some (givens_of y)
  put_givens given = ap (λ (t : View Givens Entry). t.givens) took ∙ (given ∙ ap Some (sym (same_givens v x y made)))

  module _ (w : View Givens Entry) (put : w ≡ passed_on u (reverse y.history)) where
    is_after : after v n x y ≡ w
    is_after = sym (put ∙ ap (λ (t : View Givens Entry). passed_on t (reverse y.history)) took)

    pub event : (P : Life → Life → Type 0) → (taken : (v.givens ≡ Some (givens_of x)) × Knows owner_of v (reverse x.history))
        → Knows owner_of w (reverse y.history) → IsHistory (givens_of y) y.history → P x y → Event P v w
    event P taken known runs p =
        subst (Event P v) is_after
        (is_event v x y made n taken.1 (subst (λ t. Knows owner_of t (reverse y.history)) (sym is_after) known) runs P taken.0 p)

    pub holds_after : (c : ℕ) → Knows owner_of v (reverse x.history) → HoldsConnection v c → (y ≡ with_entry (Left c) x → ⊥) → HoldsConnection w c
    holds_after c k holds stays =
        subst (λ t. HoldsConnection t c) is_after (held_after v x y made n k c holds (λ is. stays (gone is)))
      where
        gone : reverse (reverse y.history) ≡ Left c ∷ x.history → y ≡ with_entry (Left c) x
        gone is = ap₂ life_at (same_givens v x y made) (sym (reverse-reverse y.history) ∙ is)

    -- a connection that enters is held
    pub enters_hold : (r : Result ℕ EnterFault) → Knows owner_of v (reverse x.history) → IsHistory (givens_of x) x.history → Enters x r y
        → IfOk r (HoldsConnection w)
    enters_hold (Ok conn) k runs s =
        subst (λ t. HoldsConnection t conn) is_after
        (record {
          owns = record {
            place = length (reverse x.history);
            made = subst (In (length (reverse x.history))) (sym (made_one v.mine (reverse x.history) (Entered conn) (reverse y.history) longer))
                (in_last (length (reverse x.history)) v.mine);
            entered =
                subst (λ l. get_elem? l (length (reverse x.history)) ≡ some (Entered conn)) (sym longer)
                (at_last (reverse x.history) (Entered conn) (length (reverse x.history)) refl);
          };
          staying = λ z there at. left z (subst (λ l. get_elem? l z ≡ some (Left conn)) longer at);
        })
      where
        longer : reverse y.history ≡ reverse x.history ++ Entered conn ∷ []
        longer = ap (λ (l : Life). reverse l.history) s.2 ∙ reverse_more (Entered conn) x.history

        left : (z : ℕ) → get_elem? (reverse x.history ++ Entered conn ∷ []) z ≡ some (Left conn) → ⊥
        left z at =
            ⊎_elim
            (λ (old : get_elem? (reverse x.history) z ≡ some (Left conn)).
            (let low = owners_low x.config x.run x.limit x.history runs.legal (Left conn) (at_reversed x.history z (Left conn) old) conn refl in
            let next : conn ≡ connections x.history = s.0 in omega (arith, low, next)))
            (λ (new : (z ≡ length (reverse x.history)) × (Entered conn ≡ Left conn)). (let e : Entered conn ≡ Left conn = new.1 in cc))
            (at_push (reverse x.history) (Entered conn) (Left conn) z at)
    enters_hold (Err fault) k runs s = tt
