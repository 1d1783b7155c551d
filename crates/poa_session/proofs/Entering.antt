-- A connection that has just entered has done nothing yet.
use Rattle.std.proofs.Common.{◌≡◌, ℕ, ◌≤◌, List, [], ◌∷◌, ◌++◌, ◌+◌, length, length-append, reverse, refl, sym, ap, subst, ◌∙◌, append-nil, inl, inr, arith}
use Rattle.std.specs.Prelude.{Some, None, Ok}
use Rattle.std.proofs.lemmas.List.{length-reverse, reverse-append, reverse-reverse}
use mathlib.Core.Option.{some}
use lib.ListN.{get_elem?}
use Rattle.poa_base.specs.declared.Entry.{Entry}
use Rattle.poa_base.specs.declared.Entry.TheVariants.{Entered}
use Rattle.history_standing.specs.Trees.{In}
use Rattle.poa_history.specs.Legal.{IsLegal}
use Rattle.seat_lock.specs.declared.view.View.{View}
use Rattle.seat_lock.proofs.Lists.{at_last}
use Rattle.poa_history.specs.declared.Givens.{Givens}
use Rattle.poa_history.specs.Owners.{owner_of, HasNone}
use Rattle.poa_history.proofs.Owned.{owners_low}
use Rattle.poa_core.specs.Answers as answers
use Rattle.poa_history.specs.Life.{Life, life_at}
use Rattle.poa_shared.specs.Seen.{Turns, past}
use Rattle.session_laws.specs.Records.{arrived_by, joined_by, filling_by, places_by}
use Rattle.session_laws.proofs.Others.{arrived_others, filling_others, joined_others, places_others}
use Rattle.session_laws.proofs.Own.{places_own}

none_in : (c : ℕ) (h : List Entry) → ((e : Entry) → In e h → owner_of e ≡ Some c → ⊥) → HasNone c h
none_in c [] none = tt
none_in c (e ∷ h) none = (none e (inl refl), none_in c h (λ d there. none d (inr there)))

-- a history that has nothing of the connection
module _ (c : ℕ) (h : List Entry) (none : HasNone c h) where
  no_calls : arrived_by h c ≡ []
  no_calls = ap (λ k. arrived_by k c) (sym (append-nil h)) ∙ arrived_others c [] h none

  no_replies : (g : Givens) → joined_by g h c ≡ []
  no_replies g = ap (λ k. joined_by g k c) (sym (append-nil h)) ∙ joined_others c [] g h none

  no_filling : filling_by h c ≡ None
  no_filling = ap (λ k. filling_by k c) (sym (append-nil h)) ∙ filling_others c [] h none

  no_places : places_by h c ≡ []
  no_places = ap (λ k. places_by k c) (sym (append-nil h)) ∙ places_others c [] h none

-- what was seen is the front of what is seen later
pub seen_front : (v w : View Givens Entry) (more : List Entry) → past w ≡ more ++ past v → w.seen ≡ v.seen ++ reverse more
seen_front v w more since =
    sym (reverse-reverse w.seen) ∙ (ap reverse since ∙ (reverse-append more (past v) ∙ ap (λ l. l ++ reverse more) (reverse-reverse v.seen)))

-- the connection entered, and the seat sees so much of it
pub record Begun (g : Givens) (c : ℕ) (v w : View Givens Entry) : Type 0 where
  pub more : List Entry
  pub since : past w ≡ more ++ past v
  pub calls : arrived_by (past w) c ≡ []
  pub replies : joined_by g (past w) c ≡ []
  pub filling : filling_by (past w) c ≡ None
  pub place : ℕ
  pub later : length v.seen ≤ place
  pub entered : get_elem? w.seen place ≡ some (Entered c)
  pub places_are : places_by (past w) c ≡ place ∷ []
  pub mine_is : w.mine ≡ v.mine ++ place ∷ []

pub begun : (g : Givens) (v : View Givens Entry) (h : List Entry) (w : View Givens Entry) (c : ℕ) → Turns g v h w
    → answers.Enters (life_at g h) (Ok c) (life_at g (past w)) → Begun g c v w
begun g v h w c turns answer = record {
  more = Entered c ∷ turns.goes_on.more;
  since = is ∙ ap (λ k. Entered c ∷ k) turns.goes_on.is;
  calls = ap (λ k. arrived_by k c) is ∙ no_calls c h none;
  replies = ap (λ k. joined_by g k c) is ∙ no_replies c h none g;
  filling = ap (λ k. filling_by k c) is ∙ no_filling c h none;
  place = length h;
  later = (let long : length h ≡ length turns.goes_on.more + length (past v) = ap length turns.goes_on.is ∙ length-append turns.goes_on.more (past v) in
      let same = length-reverse v.seen in omega (arith, long, same));
  entered = subst (λ l. get_elem? l (length h) ≡ some (Entered c)) (sym seen) (at_last (reverse h) (Entered c) (length h) (length-reverse h));
  places_are = ap (λ k. places_by k c) is ∙ (places_own c h (Entered c) refl ∙ ap (λ ps. ps ++ length h ∷ []) (no_places c h none));
  mine_is = turns.one_made (Entered c) is;
}
  where
    is : past w ≡ Entered c ∷ h
    is = ap (λ (l : Life). l.history) answer.2

    legal : IsLegal g.config g.run g.limit (Entered c ∷ h)
    legal = subst (IsLegal g.config g.run g.limit) is turns.runs.legal

    none : HasNone c h
    none = none_in c h (λ e there own. (let low = owners_low g.config g.run g.limit h legal.1 e there c own in let next = answer.0 in omega (arith, low, next)))

    seen : w.seen ≡ reverse h ++ Entered c ∷ []
    seen = sym (reverse-reverse w.seen) ∙ (ap reverse is ∙ reverse-append (Entered c ∷ []) h)
