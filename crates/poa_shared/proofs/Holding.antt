-- What a seat knows of the history that it takes, of the connections that entered by it.
use Rattle.std.proofs.Common.{◌≡◌, ℕ, ◌<◌, true, false, ◌||◌, ◌==◌, List, [], ◌∷◌, reverse, refl, sym, ap, subst, ◌∙◌, inl, inr, arith}
use Rattle.std.specs.Prelude.{Some, None}
use Rattle.std.proofs.lemmas.Bool.{eqb-true}
use Rattle.std.proofs.lemmas.List.{reverse-append, reverse-reverse}
use mathlib.Core.Option.{some}
use lib.ListN.{get_elem?}
use Rattle.poa_base.specs.declared.Entry.{Entry}
use Rattle.poa_base.specs.declared.Entry.TheVariants.{Entered, Arrive, Filled, Left, Collect, Admit, Tried, Incarnated, Run, Done, TakeOut, Etherealized, Abandon}
use Rattle.history_standing.specs.Trees.{In as InList}
use Rattle.history_standing.specs.Arrivals.{connections}
use Rattle.poa_history.specs.Legal.{IsOpen, has_left}
use Rattle.seat_lock.specs.declared.view.View.{View}
use Rattle.seat_lock.specs.Histories.{In, Belongs, MayMake, entering}
use Rattle.seat_lock.specs.Steps.{Knows}
use Rattle.seat_lock.proofs.Calls.{at_prefix}
use Rattle.poa_history.specs.declared.givens.Givens.{Givens}
use Rattle.poa_history.specs.Owners.{owner_of}
use Rattle.poa_history.specs.GivenRuns.{IsHistory}
use Rattle.poa_history.proofs.Owned.{owners_low}
use Rattle.poa_shared.specs.Seen.{GoesOn, HoldsConnection, Owns}
use Rattle.poa_shared.proofs.Places.{at_reversed, at_shorter, none_behind, reversed_at}

-- a connection that has left left by an entry
left_there : (h : List Entry) (c : ℕ) → has_left h c ≡ true → InList (Left c) h
left_there [] c is = absurd (let e : false ≡ true = is in cc)
left_there (Left conn ∷ h) c is =
    elim (conn == c) as (λ b. (conn == c) ≡ b → (b || has_left h c) ≡ true → InList (Left c) (Left conn ∷ h)) [
      | true ↦ (λ same _. inl (ap Left (sym (eqb-true conn c same))))
      | false ↦ (λ _ was. inr (left_there h c was))
    ] refl is
left_there (Entered conn ∷ h) c is = inr (left_there h c is)
left_there (Arrive conn size call ∷ h) c is = inr (left_there h c is)
left_there (Filled conn size ∷ h) c is = inr (left_there h c is)
left_there (Collect conn a ∷ h) c is = inr (left_there h c is)
left_there (Admit w r v ∷ h) c is = inr (left_there h c is)
left_there (Tried w a ∷ h) c is = inr (left_there h c is)
left_there (Incarnated w a ∷ h) c is = inr (left_there h c is)
left_there (Run w ∷ h) c is = inr (left_there h c is)
left_there (Done w ∷ h) c is = inr (left_there h c is)
left_there (TakeOut w n x ∷ h) c is = inr (left_there h c is)
left_there (Etherealized w x y ∷ h) c is = inr (left_there h c is)
left_there (Abandon w ∷ h) c is = inr (left_there h c is)

module _ (v : View Givens Entry) (h : List Entry) (k : Knows owner_of v (reverse h)) where
  entered_here : (c : ℕ) (owns : Owns v c) → get_elem? (reverse h) owns.place ≡ some (Entered c)
  entered_here c owns = at_prefix v.seen (reverse h) owns.place (Entered c) k.saw owns.entered

  -- the seat made the entering entry, and so every entry of the connection
  pub entering_made : (c : ℕ) → Owns v c → In (entering owner_of c (reverse h)) v.mine
  entering_made c owns = k.closed owns.place c owns.made (Entered c, entered_here c owns, refl)

  own_made : (c : ℕ) → Owns v c → (x : ℕ) → Belongs owner_of (reverse h) x c → In x v.mine
  own_made c owns x b = k.owns x c b (entering_made c owns)

  pub goes_on : GoesOn v h
  goes_on =
      record {
        more = reverse k.saw.0;
        is = sym (reverse-reverse h) ∙ (ap reverse k.saw.1 ∙ reverse-append v.seen k.saw.0);
        alone = λ c owns. none_behind v.seen k.saw.0 c
            (λ x far b.
            (let made = own_made c owns x (subst (λ l. Belongs owner_of l x c) (sym k.saw.1) b) in let low = k.within x made in omega (arith, far, low)));
      }

  module _ (g : Givens) (runs : IsHistory g h) where
    pub owned_entered : (c : ℕ) → Owns v c → c < connections h
    owned_entered c owns = owners_low g.config g.run g.limit h runs.legal (Entered c) (at_reversed h owns.place (Entered c) (entered_here c owns)) c refl

    pub held_open : (c : ℕ) → HoldsConnection v c → IsOpen h c
    held_open c holds =
        record {
          entered = owned_entered c holds.owns;
          staying = elim (has_left h c) as (λ b. has_left h c ≡ b → b ≡ false) [
            | true ↦ (λ left. absurd (gone (reversed_at h (Left c) (left_there h c left))))
            | false ↦ (λ _. refl)
          ] refl;
        }
      where
        gone : (x : ℕ) × (get_elem? (reverse h) x ≡ some (Left c)) → ⊥
        gone at =
            (let made = own_made c holds.owns at.0 (Left c, at.1, refl) in
            holds.staying at.0 made (at_shorter v.seen (reverse h) at.0 (Left c) k.saw (k.within at.0 made) at.1))

    -- a connection that enters has no entry yet
    pub may_enter : MayMake owner_of (reverse h) v.mine (Entered (connections h))
    may_enter c own =
        inl (λ x b. (let low = owners_low g.config g.run g.limit h runs.legal b.0 (at_reversed h x b.0 b.1) c b.2 in
        let same : Some (connections h) ≡ Some c = own in let next : connections h ≡ c = cc in omega (arith, low, next)))

  pub may_own : (c : ℕ) (e : Entry) → Owns v c → owner_of e ≡ Some c → MayMake owner_of (reverse h) v.mine e
  may_own c e owns of_c d own =
      inr (let same : Some c ≡ Some d = sym of_c ∙ own in let is : c ≡ d = cc in
      subst (λ x. In (entering owner_of x (reverse h)) v.mine) is (entering_made c owns))

pub may_work : (log : List Entry) (mine : List ℕ) (e : Entry) → owner_of e ≡ None → MayMake owner_of log mine e
may_work log mine e none c own = absurd (let f : None ≡ Some c = sym none ∙ own in cc)
