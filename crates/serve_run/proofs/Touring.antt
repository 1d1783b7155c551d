-- One door more is served, or isn't started.
use Rattle.std.proofs.Common.{◌≡◌, ℕ, ◌+◌, ◌≤◌, ◌<◌, Bool, true, false, ◌||◌, List, [], ◌∷◌, ◌++◌, length, Option, Some, None, refl, sym, ap, ap₂, ◌∙◌, subst, arith}
use Rattle.std.proofs.lemmas.List.{append-nil, length-append}
use Rattle.std.specs.Option.{IsSome}
use Rattle.outside.specs.Accepting.{Standing}
use Rattle.outside.specs.Link.{Shown}
use Rattle.poa_base.specs.declared.Entry.{Entry}
use Rattle.poa_history.specs.declared.givens.Givens.{Givens}
use Rattle.poa_history.specs.declared.full.Full.{Full}
use Rattle.poa_shared.specs.Seen.{past}
use Rattle.seat_lock.specs.declared.view.View.{View}
use Rattle.seat_lock.specs.Histories.{IsPrefix}
use Rattle.session_laws.specs.declared.peer.Peer.{Peer}
use Rattle.session_laws.specs.declared.peer.Peer.TheVariants.{Client}
use Rattle.serve_run.specs.Doors.{DoorKept, DoorServed}
use Rattle.serve_run.specs.Refusals.{earlier}
use Rattle.serve_run.specs.declared.ran.PieceEnd.{PieceEnd}
use Rattle.serve_run.specs.declared.task.Task.{Task}
use Rattle.serve_run.specs.Holding.{Holds}
use Rattle.serve_run.specs.Lanes.{AreServed, LanesServed}
use Rattle.serve_run.specs.Outcomes.{good, is_failed, short_of, with_door}
use Rattle.serve_run.specs.Shutting.{Says}
use Rattle.serve_run.specs.Starting.{IsJoined, IsKept, IsSameSeat, task_door}
use Rattle.serve_run.specs.Tours.{Tour, Shift}
use Rattle.serve_run.specs.declared.outcome.Outcome.{Outcome}
use Rattle.serve_run.specs.declared.outcome.Want.{Want}
use Rattle.serve_run.proofs.JoiningDoors.{holds_door}
use Rattle.serve_run.proofs.Opening.{said, IsSaid}
use Rattle.serve_run.proofs.Passing.{has_passed}
use Rattle.serve_run.proofs.Staying.{holds_looked, holds_same}

empty : {X : Type 0} (l : List X) → length l ≡ 0 → l ≡ []
empty [] none = refl
empty (x ∷ l) none = absurd (omega arith)

pub same_prefix : (v w : View Givens Entry) → IsKept v w → IsPrefix v.seen w.seen
same_prefix v w kept = ([], kept.seen ∙ sym (append-nil v.seen))

-- the door that comes back
pub back_is : {A : Type 0} (door : A) (back : A) (told given_ : Option A) → told ≡ given_ → given_ ≡ Some door → told ≡ Some back → back ≡ door
back_is door back told given_ same is back_is_ = (let e : Some back ≡ Some door = sym back_is_ ∙ (same ∙ is) in cc)

pub some_door : {A : Type 0} (told given_ : Option A) (door : A) → told ≡ given_ → given_ ≡ Some door → IsSome told
some_door told given_ door same is = subst IsSome (sym (same ∙ is)) refl

pub some_same : {A G : Type 0} (back task : Task A G) (door lane : A) → back ≡ task → task_door back ≡ Some door → task_door task ≡ Some lane → door ≡ lane
some_same back task door lane same is was = (let e : Some door ≡ Some lane = sym is ∙ (ap task_door same ∙ was) in cc)

module _ {A L : Type 0} (g : Givens) (shown : L → Shown) (standing : A → Option (Standing L)) (faults ends : A → ℕ) where
  pub holds_kept : (own : Option (ℕ × Entry)) (tours : List (Tour A L)) (shifts : List Shift) (v w : View Givens Entry) → IsKept v w
      → Holds {A = A} {L = L} g shown standing faults ends own tours shifts v → Holds {A = A} {L = L} g shown standing faults ends own tours shifts w
  holds_kept own tours shifts v w kept holds = holds_same g shown standing faults ends tours shifts own v w (same_prefix v w kept) kept.mine holds

  pub none_served : (v : View Givens Entry) → Holds {A = A} {L = L} g shown standing faults ends None [] [] v
      → AreServed {A = A} {L = L} g shown standing faults ends [] good v v
  none_served v holds = record {
    same = record { given = refl; base = refl; room = refl };
    failed_is = refl;
    refused_is = refl;
    passed = tt;
    own = None;
    word = tt;
    holds = λ _. holds;
    calm = λ _. (refl, refl);
  }

  pub no_lanes : (lanes lanes' : List A) (v : View Givens Entry) → lanes ≡ lanes' ++ [] → length lanes ≡ 0
      → Holds {A = A} {L = L} g shown standing faults ends None [] [] v → LanesServed {A = A} {L = L} g shown standing faults ends lanes lanes' good v v
  no_lanes lanes lanes' v same none holds = record {
    tours = [];
    rest = [];
    before = empty lanes none;
    after = sym (append-nil lanes') ∙ (sym same ∙ empty lanes none);
    all = λ _. refl;
    clients = tt;
    served = none_served v holds;
  }

  -- the end of the run is called for
  module _ (tours : List (Tour A L)) (shifts : List Shift) (v w : View Givens Entry) (given : v.givens ≡ Some g)
      (holds : Holds {A = A} {L = L} g shown standing faults ends None tours shifts v) where
    pub says_shutdown : Says v w → IsSaid {A = A} {L = L} g shown standing faults ends tours shifts v holds w
    says_shutdown says = record { own = it.own; word = it.word; holds_it = it.holds_it; last = it.last }
      where
        looked : Holds {A = A} {L = L} g shown standing faults ends None tours shifts says.between
        looked =
            (let event = says.looked g given in
            holds_looked g shown standing faults ends tours shifts v says.between event.0 event.1 None (ap (λ l. l.history) event.2) holds)

        it : IsSaid {A = A} {L = L} g shown standing faults ends tours shifts says.between looked w
        it = (let event = says.looked g given in
            said g shown standing faults ends tours shifts says.between looked w (event.1.given ∙ given) says.answer says.arrived)

  -- a piece isn't started, and the end of the run is called for at once
  module _ (v v' w : View Givens Entry) (given : v.givens ≡ Some g) (kept : IsKept v v') (room : v'.room ≡ v.room) (same : IsSameSeat v' w)
      (holds : Holds {A = A} {L = L} g shown standing faults ends None [] [] v) (want : Want) (lost : Bool) (says : lost ≡ false → Says v' w) where
    by_lost : (b : Bool) → lost ≡ b → AreServed {A = A} {L = L} g shown standing faults ends [] (short_of want lost) v w
    by_lost true is = record {
      same = record { given = same.given ∙ kept.given; base = same.base ∙ kept.base; room = same.room ∙ room };
      failed_is = refl;
      refused_is = refl;
      passed = tt;
      own = None;
      word = tt;
      holds = λ kept_. absurd (let e : true ≡ false = sym is ∙ kept_ in cc);
      calm = λ none. absurd (let e : Some want ≡ None = none in cc);
    }
    by_lost false is =
        let it = says_shutdown [] [] v' w (kept.given ∙ given) (holds_kept None [] [] v v' kept holds) (says is) in
        record {
          same = record { given = same.given ∙ kept.given; base = same.base ∙ kept.base; room = same.room ∙ room };
          failed_is = refl;
          refused_is = refl;
          passed = tt;
          own = it.own;
          word = it.word;
          holds = λ _. it.holds_it;
          calm = λ none. absurd (let e : Some want ≡ None = none in cc);
        }

    pub short_served : AreServed {A = A} {L = L} g shown standing faults ends [] (short_of want lost) v w
    short_served = by_lost lost refl

    pub short_lanes : (lanes lanes' : List A) → lanes' ≡ lanes → LanesServed {A = A} {L = L} g shown standing faults ends lanes lanes' (short_of want lost) v w
    short_lanes lanes lanes' back = record {
      tours = [];
      rest = lanes;
      before = refl;
      after = back;
      all = λ none. absurd (let e : Some want ≡ None = none in cc);
      clients = tt;
      served = short_served;
    }

  -- a door's piece is joined
  module _ {G : Type 0} (peer : Peer) (task : Task A G) (closed : A) (tours : List (Tour A L)) (v v' w j : View Givens Entry) (outcome : Outcome)
      (kept : IsKept v v') (room : v'.room + 1 ≡ v.room) (inner : AreServed {A = A} {L = L} g shown standing faults ends tours outcome v' w)
      (first : View Givens Entry) (first_room : first.room ≡ 0) (door : Option A) (refused : Option Full) (end : PieceEnd)
      (joined : IsJoined {A = A} {G = G} {L = L} shown standing faults ends task first w j door refused end)
      (keeps : DoorKept {A = A} {L = L} g peer shown standing faults ends closed first joined.ran) where
    abbrev served : DoorServed {A = A} {L = L} g peer shown standing faults ends first joined.ran.seat.me.0 closed keeps.0 joined.ran.refused joined.ran.end
    served = keeps.2

    abbrev pub tour_of : Tour A L
    tour_of =
        record {
          peer = peer;
          closed = closed;
          served = keeps.0;
          visits = served.visits;
          end = joined.ran.end;
          stood = joined.ran.seat.me.0.seen;
        }

    pub same_joined : IsSameSeat v j
    same_joined = record {
      given = ap (λ x. x.givens) joined.joined ∙ (inner.same.given ∙ kept.given);
      base = ap (λ x. x.base) joined.joined ∙ (inner.same.base ∙ kept.base);
      room = (let r : j.room ≡ w.room + joined.ran.seat.me.0.room + 1 = ap (λ x. x.room) joined.joined in
          let none : joined.ran.seat.me.0.room ≡ 0 = served.attends.room ∙ first_room in let same = inner.same.room in omega arith);
    }

    pub more_served : AreServed {A = A} {L = L} g shown standing faults ends (tour_of ∷ tours) (with_door refused end outcome) v j
    more_served = record {
      same = same_joined;
      failed_is = ap₂ (λ x y. x || y) inner.failed_is (ap is_failed joined.end_is);
      refused_is = ap₂ earlier inner.refused_is (joined.refused_is ∙ served.refused_is);
      passed = (has_passed standing faults ends tour_of (past joined.ran.seat.me.0) served.passes joined.ran.end refl served.cause, inner.passed);
      own = inner.own;
      word = inner.word;
      holds = λ lost. holds_door g shown standing faults ends inner.own tours [] w joined.ran.seat.me.0 j
          (inner.holds lost) peer closed keeps.0 joined.ran.refused joined.ran.end first served joined.unites (ap (λ x. x.mine) joined.joined);
      calm = inner.calm;
    }

  -- the lane's piece is joined
  module _ {G : Type 0} (task : Task A G) (lane : A) (lanes front front' lanes' : List A) (v v' w j : View Givens Entry) (outcome : Outcome)
      (kept : IsKept v v') (room : v'.room + 1 ≡ v.room) (popped : lanes ≡ front ++ lane ∷ [])
      (inner : LanesServed {A = A} {L = L} g shown standing faults ends front front' outcome v' w)
      (first : View Givens Entry) (first_room : first.room ≡ 0) (door : Option A) (refused : Option Full) (end : PieceEnd)
      (joined : IsJoined {A = A} {G = G} {L = L} shown standing faults ends task first w j door refused end)
      (keeps : DoorKept {A = A} {L = L} g Client shown standing faults ends lane first joined.ran) (back : A) (back_is_ : door ≡ Some back)
      (pushed : lanes' ≡ front' ++ back ∷ []) where
    pub lanes_more : LanesServed {A = A} {L = L} g shown standing faults ends lanes lanes' (with_door refused end outcome) v j
    lanes_more = record {
      tours = tour_of Client task lane inner.tours v v' w j outcome kept room inner.served first first_room door refused end joined keeps ∷ inner.tours;
      rest = inner.rest;
      before = popped ∙ ap (λ l. l ++ lane ∷ []) inner.before;
      after = pushed ∙ ap₂ (λ l d. l ++ d ∷ []) inner.after (back_is keeps.0 back door joined.ran.door joined.door_is keeps.1 back_is_);
      all = inner.all;
      clients = (refl, inner.clients);
      served = more_served Client task lane inner.tours v v' w j outcome kept room inner.served first first_room door refused end joined keeps;
    }

pub kept_itself : (v : View Givens Entry) → IsKept v v
kept_itself v = record { seen = refl; mine = refl; given = refl; base = refl }

pub kept_both : (u v w : View Givens Entry) → IsKept u v → IsKept v w → IsKept u w
kept_both u v w a b = record { seen = b.seen ∙ a.seen; mine = b.mine ∙ a.mine; given = b.given ∙ a.given; base = b.base ∙ a.base }

-- where a lane is left there is room for it
pub some_last : {A : Type 0} (lanes front : List A) (lane : A) (count : ℕ) (v : View Givens Entry) → count ≡ length lanes → lanes ≡ front ++ lane ∷ []
    → count + count ≤ v.room → 0 < v.room
some_last lanes front lane count v counted popped room =
    (let long : length lanes ≡ length front + 1 = ap length popped ∙ length-append front (lane ∷ []) in omega arith)
