-- The seat of a lane's aid is joined: the run's seat holds the turns that were made by it.
use Rattle.std.proofs.Common.{◌≡◌, ℕ, ◌+◌, ◌-◌, ◌≤◌, ◌<◌, Bool, true, false, List, [], ◌∷◌, ◌++◌, length, cond, ltb, Option, Some, None, sym, ap, ◌∙◌, subst, inr, ⊎_elim, arith}
use Rattle.std.proofs.lemmas.List.{append-nil}
use Rattle.outside.specs.Accepting.{Standing}
use Rattle.outside.specs.Link.{Shown}
use Rattle.poa_base.specs.declared.Entry.{Entry}
use Rattle.poa_shared.specs.Helping.{Aids, Helps, SeatOf}
use Rattle.poa_shared.proofs.Helped.{help_stays}
use Rattle.poa_shared.proofs.Making.{in_either}
use Rattle.poa_history.specs.declared.givens.Givens.{Givens}
use Rattle.poa_history.specs.Owners.{owner_of}
use Rattle.seat_lock.specs.Histories.{Belongs, In}
use Rattle.seat_lock.specs.Seats.{view}
use Rattle.seat_lock.specs.Steps.{Unites}
use Rattle.seat_lock.specs.Views.{longer}
use Rattle.seat_lock.specs.declared.view.View.{View}
use Rattle.serve_run.specs.Ledgers.{Ledger}
use Rattle.serve_run.proofs.Growing.{Adds}
use Rattle.serve_run.proofs.Places.{in_first, in_second, stood_before}
use Rattle.serve_run.specs.Aiding.{AidJoined, IsSplit}
use Rattle.serve_run.specs.Holding.{Holds}
use Rattle.serve_run.specs.Lanes.{AreServed, LanesServed}
use Rattle.serve_run.specs.Starting.{IsKept}
use Rattle.serve_run.specs.Tours.{Tour, conns_in}
use Rattle.serve_run.specs.declared.outcome.Outcome.{Outcome}
use Rattle.serve_run.proofs.Helping.{help_at, ledger_helped, turns_more}
use Rattle.serve_run.proofs.JoiningDoors.{each_toured}
use Rattle.serve_run.proofs.Numbers.{here_in}
use Rattle.serve_run.proofs.Uniting.{adds_other, ledger_both, other_apart}

module _ {A L : Type 0} (g : Givens) (shown : L → Shown) (standing : A → Option (Standing L)) (faults ends : A → ℕ) (own : Option (ℕ × Entry))
    (tours : List (Tour A L))
    (v u j : View Givens Entry) (holds : Holds {A = A} {L = L} g shown standing faults ends own tours [] v)
    (first : View Givens Entry) (fresh : first.mine ≡ []) (helps : Helps first u) (unites : Unites v u j) (mine : j.mine ≡ v.mine ++ u.mine) where
  other : Ledger [] (0 ∷ []) u
  other = ledger_helped first u fresh helps

  adds : Adds v j u.mine
  adds = adds_other v u j unites mine (0 ∷ conns_in tours) [] (0 ∷ []) (0 ∷ []) holds.ledger other

  apart : (c : ℕ) → In c (0 ∷ conns_in tours) → (place : ℕ) → In place u.mine → Belongs owner_of j.seen place c → ⊥
  apart c i = other_apart v u j unites mine (0 ∷ conns_in tours) [] (0 ∷ []) (0 ∷ []) holds.ledger other c (holds.ledger.owned c i)

  pub holds_aid : Holds {A = A} {L = L} g shown standing faults ends own tours [] j
  holds_aid = record {
    ledger = ledger_both v u j unites mine (0 ∷ conns_in tours) [] (0 ∷ []) (0 ∷ []) holds.ledger other
        (0 ∷ conns_in tours) (0 ∷ []) (λ c. omega arith) (λ w i. i) (λ w i. i);
    turns_are = turns_more v j u.mine adds [] [] (λ w i. i)
        (λ place w there at. inr (help_stays u.seen j.seen place unites.second (help_at first u fresh helps place there))) holds.turns_are;
    tours_are = each_toured v j u.mine adds g shown standing faults ends tours (λ c i. apart c (in_second c (0 ∷ []) (conns_in tours) i)) holds.tours_are;
    shifts_are = tt;
    own_is = λ place e there stands is. ⊎_elim
        (λ (i : In place v.mine). holds.own_is place e i (stood_before v.seen j.seen place e unites.first (holds.ledger.within place i) stands) is)
        (λ (i : In place u.mine). absurd (apart 0 (in_first 0 (0 ∷ []) (conns_in tours) (here_in 0)) place i (e, stands, is)))
        (in_either place v.mine u.mine (subst (In place) mine there));
  }

-- an aid's seat is split
module _ (v w : View Givens Entry) where
  pub split_kept : (aid : Option SeatOf) → IsSplit v aid w → IsKept v w
  split_kept (Some s) is = record { seen = ap (λ x. x.seen) is.0; mine = ap (λ x. x.mine) is.0; given = ap (λ x. x.givens) is.0; base = ap (λ x. x.base) is.0 }
  split_kept None is = record { seen = ap (λ x. x.seen) is; mine = ap (λ x. x.mine) is; given = ap (λ x. x.givens) is; base = ap (λ x. x.base) is }

  pub split_room : (aid : Option SeatOf) → IsSplit v aid w → v.room ≤ w.room + 1
  split_room (Some s) is = (let r : w.room ≡ v.room - 1 = ap (λ x. x.room) is.0 in omega arith)
  split_room None is = (let r : w.room ≡ v.room = ap (λ x. x.room) is in omega arith)

longer_same : (a b l : List Entry) → a ≡ l → b ≡ l → longer a b ≡ l
longer_same a b l p q = by_order (ltb (length a) (length b))
  where
    by_order : (t : Bool) → cond t b a ≡ l
    by_order true = q
    by_order false = p

-- and joined again, as it made nothing
module _ (v w v' j : View Givens Entry) (kept : IsKept w v') (room : v'.room ≡ w.room) (some_room : 0 < v.room) where
  pub rejoined : (aid : Option SeatOf) → IsSplit v aid w → AidJoined v' aid j → IsKept v j × (j.room ≡ v.room)
  rejoined (Some s) split joined = (
    record {
      seen = ap (λ x. x.seen) joined.0 ∙ longer_same v'.seen (view s).seen v.seen (kept.seen ∙ ap (λ x. x.seen) split.0) (ap (λ x. x.seen) split.1);
      mine = ap (λ x. x.mine) joined.0 ∙ (ap (λ l. v'.mine ++ l) (ap (λ x. x.mine) split.1) ∙ (append-nil v'.mine ∙ (kept.mine ∙ ap (λ x. x.mine) split.0)));
      given = ap (λ x. x.givens) joined.0 ∙ (kept.given ∙ ap (λ x. x.givens) split.0);
      base = ap (λ x. x.base) joined.0 ∙ (kept.base ∙ ap (λ x. x.base) split.0);
    },
    (let r : j.room ≡ v'.room + (view s).room + 1 = ap (λ x. x.room) joined.0 in
        let left : w.room ≡ v.room - 1 = ap (λ x. x.room) split.0 in
        let none : (view s).room ≡ 0 = ap (λ x. x.room) split.1 in omega arith),
  )
  rejoined None split joined = (
    record {
      seen = ap (λ x. x.seen) joined ∙ (kept.seen ∙ ap (λ x. x.seen) split);
      mine = ap (λ x. x.mine) joined ∙ (kept.mine ∙ ap (λ x. x.mine) split);
      given = ap (λ x. x.givens) joined ∙ (kept.given ∙ ap (λ x. x.givens) split);
      base = ap (λ x. x.base) joined ∙ (kept.base ∙ ap (λ x. x.base) split);
    },
    ap (λ x. x.room) joined ∙ (room ∙ ap (λ x. x.room) split),
  )

pub aid_given : (v w : View Givens Entry) (aid : Option SeatOf) → AidJoined v aid w → w.givens ≡ v.givens
aid_given v w (Some s) joined = ap (λ x. x.givens) joined.0
aid_given v w None joined = ap (λ x. x.givens) joined

-- lanes were served in between, and the aid made turns
module _ {A L : Type 0} (g : Givens) (shown : L → Shown) (standing : A → Option (Standing L)) (faults ends : A → ℕ) (v w u j : View Givens Entry)
    (given : v.givens ≡ Some g) (some_room : 0 < v.room)
    (tours : List (Tour A L)) (outcome : Outcome) (served : AreServed {A = A} {L = L} g shown standing faults ends tours outcome w u) where
  pub are_aided : (aid back : Option SeatOf) → IsSplit v aid w → Aids aid back → AidJoined u back j
      → AreServed {A = A} {L = L} g shown standing faults ends tours outcome v j
  are_aided (Some s) (Some t) split aids joined =
      let helps : Helps (view s) (view t) = aids g (ap (λ x. x.givens) split.1 ∙ given) in
      record {
        same = record {
          given = ap (λ x. x.givens) joined.0 ∙ (served.same.given ∙ ap (λ x. x.givens) split.0);
          base = ap (λ x. x.base) joined.0 ∙ (served.same.base ∙ ap (λ x. x.base) split.0);
          room =
              (let r : j.room ≡ u.room + (view t).room + 1 = ap (λ x. x.room) joined.0 in
              let left : w.room ≡ v.room - 1 = ap (λ x. x.room) split.0 in
              let none : (view t).room ≡ 0 = helps.room ∙ ap (λ x. x.room) split.1 in
              let same = served.same.room in omega arith);
        };
        failed_is = served.failed_is;
        refused_is = served.refused_is;
        passed = served.passed;
        own = served.own;
        word = served.word;
        holds = λ kept. holds_aid g shown standing faults ends served.own tours u (view t) j (served.holds kept) (view s) (ap (λ x. x.mine) split.1) helps joined.1
            (ap (λ x. x.mine) joined.0);
        calm = served.calm;
      }
  are_aided None None split aids joined = subst (λ x. AreServed {A = A} {L = L} g shown standing faults ends tours outcome x j) split
      (subst (λ x. AreServed {A = A} {L = L} g shown standing faults ends tours outcome w x) (sym joined) served)
  are_aided (Some s) None split aids joined = absurd aids
  are_aided None (Some t) split aids joined = absurd aids

pub lanes_aided : {A L : Type 0} (g : Givens) (shown : L → Shown) (standing : A → Option (Standing L)) (faults ends : A → ℕ) (v w u j : View Givens Entry)
    → v.givens ≡ Some g → 0 < v.room
    → (lanes lanes' : List A) (outcome : Outcome) → LanesServed {A = A} {L = L} g shown standing faults ends lanes lanes' outcome w u
    → (aid back : Option SeatOf) → IsSplit v aid w → Aids aid back → AidJoined u back j
    → LanesServed {A = A} {L = L} g shown standing faults ends lanes lanes' outcome v j
lanes_aided g shown standing faults ends v w u j given some_room lanes lanes' outcome served aid back split aids joined = record {
  tours = served.tours;
  rest = served.rest;
  before = served.before;
  after = served.after;
  all = served.all;
  clients = served.clients;
  served = are_aided g shown standing faults ends v w u j given some_room served.tours outcome served.served aid back split aids joined;
}
