-- What a seat's view gains by one call of the shared core, and by one after the other.
use Rattle.std.proofs.Common.{◌≡◌, ℕ, List, [], ◌∷◌, ◌++◌, length, refl, sym, ap, ◌∙◌, append_assoc, append-nil}
use Rattle.std.specs.Prelude.{Some}
use Rattle.poa_base.specs.declared.Entry.{Entry}
use Rattle.seat_lock.specs.declared.view.View.{View}
use Rattle.poa_history.specs.declared.Givens.{Givens}
use Rattle.poa_history.specs.Owners.{owner_of, HasNone}
use Rattle.poa_shared.specs.Seen.{Owns, Turns, past}
use Rattle.session_laws.specs.Hearing.{Heard}
use Rattle.session_laws.specs.Records.{arrived_by, joined_by, filling_by, is_late_by, places_by}
use Rattle.session_laws.proofs.Others.{arrived_others, filling_others, joined_others, late_others, places_others}
use Rattle.session_laws.proofs.Own.{places_own}
use Rattle.poa_session.specs.Growing.{Adds}

module _ (g : Givens) (c : ℕ) (v : View Givens Entry) (h : List Entry) (w : View Givens Entry) (turns : Turns g v h w) (owns : Owns v c) where
  -- others have changed nothing of the connection
  alone : HasNone c turns.goes_on.more
  alone = turns.goes_on.alone c owns

  pub found_arrived : arrived_by h c ≡ arrived_by (past v) c
  found_arrived = ap (λ k. arrived_by k c) turns.goes_on.is ∙ arrived_others c (past v) turns.goes_on.more alone

  pub found_joined : joined_by g h c ≡ joined_by g (past v) c
  found_joined = ap (λ k. joined_by g k c) turns.goes_on.is ∙ joined_others c (past v) g turns.goes_on.more alone

  pub found_late : is_late_by h c ≡ is_late_by (past v) c
  found_late = ap (λ k. is_late_by k c) turns.goes_on.is ∙ late_others c (past v) turns.goes_on.more alone

  pub found_filling : filling_by h c ≡ filling_by (past v) c
  found_filling = ap (λ k. filling_by k c) turns.goes_on.is ∙ filling_others c (past v) turns.goes_on.more alone

  found_places : places_by h c ≡ places_by (past v) c
  found_places = ap (λ k. places_by k c) turns.goes_on.is ∙ places_others c (past v) turns.goes_on.more alone

  -- no entry was made
  pub adds_none : past w ≡ h → Adds g c v w [] []
  adds_none same = record {
    more = turns.goes_on.more;
    since = same ∙ turns.goes_on.is;
    arrived_is = ap (λ k. arrived_by k c) same ∙ (found_arrived ∙ sym (append-nil (arrived_by (past v) c)));
    joined_is = ap (λ k. joined_by g k c) same ∙ (found_joined ∙ sym (append-nil (joined_by g (past v) c)));
    late_is = ap (λ k. is_late_by k c) same ∙ found_late;
    made = [];
    mine_is = turns.none_made same ∙ sym (append-nil v.mine);
    places_is = ap (λ k. places_by k c) same ∙ (found_places ∙ sym (append-nil (places_by (past v) c)));
    runs = λ _. turns.runs;
    knows = λ _. turns.knows;
    given = turns.given;
    base = turns.base;
    room = turns.room;
    owned = turns.owned;
  }

  -- an entry of the connection was made
  pub adds_one : (e : Entry) → past w ≡ e ∷ h → owner_of e ≡ Some c → (calls : List Heard) (replies : List ℕ) → arrived_by (e ∷ h) c ≡ arrived_by h c ++ calls
      → joined_by g (e ∷ h) c ≡ joined_by g h c ++ replies → is_late_by (e ∷ h) c ≡ is_late_by h c → Adds g c v w calls replies
  adds_one e is own calls replies arrived joined late = record {
    more = e ∷ turns.goes_on.more;
    since = is ∙ ap (λ k. e ∷ k) turns.goes_on.is;
    arrived_is = ap (λ k. arrived_by k c) is ∙ (arrived ∙ ap (λ cs. cs ++ calls) found_arrived);
    joined_is = ap (λ k. joined_by g k c) is ∙ (joined ∙ ap (λ rs. rs ++ replies) found_joined);
    late_is = ap (λ k. is_late_by k c) is ∙ (late ∙ found_late);
    made = length h ∷ [];
    mine_is = turns.one_made e is;
    places_is = ap (λ k. places_by k c) is ∙ (places_own c h e own ∙ ap (λ ps. ps ++ length h ∷ []) found_places);
    runs = λ _. turns.runs;
    knows = λ _. turns.knows;
    given = turns.given;
    base = turns.base;
    room = turns.room;
    owned = turns.owned;
  }

-- nothing was done
pub adds_same : (g : Givens) (c : ℕ) (v : View Givens Entry) → Adds g c v v [] []
adds_same g c v = record {
  more = [];
  since = refl;
  arrived_is = sym (append-nil (arrived_by (past v) c));
  joined_is = sym (append-nil (joined_by g (past v) c));
  late_is = refl;
  made = [];
  mine_is = sym (append-nil v.mine);
  places_is = sym (append-nil (places_by (past v) c));
  runs = λ runs. runs;
  knows = λ knows. knows;
  given = refl;
  base = refl;
  room = refl;
  owned = λ d owns. owns;
}

-- one after the other
pub adds_both : (g : Givens) (c : ℕ) (v w u : View Givens Entry) (calls later : List Heard) (replies after : List ℕ) → Adds g c v w calls replies
    → Adds g c w u later after
    → Adds g c v u (calls ++ later) (replies ++ after)
adds_both g c v w u calls later replies after x y = record {
  more = y.more ++ x.more;
  since = y.since ∙ (ap (λ k. y.more ++ k) x.since ∙ sym (append_assoc y.more x.more (past v)));
  arrived_is = y.arrived_is ∙ (ap (λ cs. cs ++ later) x.arrived_is ∙ append_assoc (arrived_by (past v) c) calls later);
  joined_is = y.joined_is ∙ (ap (λ rs. rs ++ after) x.joined_is ∙ append_assoc (joined_by g (past v) c) replies after);
  late_is = y.late_is ∙ x.late_is;
  made = x.made ++ y.made;
  mine_is = y.mine_is ∙ (ap (λ ps. ps ++ y.made) x.mine_is ∙ append_assoc v.mine x.made y.made);
  places_is = y.places_is ∙ (ap (λ ps. ps ++ y.made) x.places_is ∙ append_assoc (places_by (past v) c) x.made y.made);
  runs = λ runs. y.runs (x.runs runs);
  knows = λ knows. y.knows (x.knows knows);
  given = y.given ∙ x.given;
  base = y.base ∙ x.base;
  room = y.room ∙ x.room;
  owned = λ d owns. y.owned d (x.owned d owns);
}
