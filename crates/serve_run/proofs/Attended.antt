-- The doors and the workers of a run, together.
use Rattle.std.proofs.Common.{◌≡◌, ℕ, ◌+◌, Bool, true, false, ◌||◌, [], ◌∷◌, Option, Some, None, is_some, refl, sym, ap, ◌∙◌, subst, inl, inr, ⊎_elim, arith}
use mathlib.Core.Logic.{dite}
use native.Mathlib.Decide.{ℕ_discrete}
use Rattle.outside.specs.Accepting.{Standing}
use Rattle.outside.specs.Link.{Shown}
use Rattle.poa_base.specs.declared.Entry.{Entry}
use Rattle.poa_shared.specs.Seen.{HoldsConnection}
use Rattle.poa_shared.specs.Worked.{Worked as WorkedAs}
use Rattle.poa_shared.specs.declared.work_end.WorkEnd.{WorkEnd}
use Rattle.poa_shared.specs.declared.work_end.WorkEnd.TheVariants.{Closed, Stopped, WantMemory}
use Rattle.poa_shared.proofs.Making.{in_either}
use Rattle.poa_history.specs.declared.givens.Givens.{Givens}
use Rattle.poa_history.specs.declared.full.Full.{Full}
use Rattle.seat_lock.specs.declared.view.View.{View}
use Rattle.seat_lock.specs.Histories.{In}
use Rattle.session_laws.specs.declared.peer.Peer.TheVariants.{Administrator}
use Rattle.serve_run.specs.Doors.{DoorKept}
use Rattle.serve_run.specs.declared.ran.PieceEnd.{PieceEnd}
use Rattle.serve_run.specs.declared.ran.PieceEnd.TheVariants.{DoorEnd, DoorFailed, NotRunning, Worked}
use Rattle.serve_run.specs.declared.task.Task.{Task}
use Rattle.serve_run.proofs.Places.{in_first, in_second}
use Rattle.serve_run.specs.Attending.{AllServed, Attended, DoorsServed}
use Rattle.serve_run.specs.Holding.{Holds}
use Rattle.serve_run.specs.Lanes.{AreServed, LanesServed}
use Rattle.serve_run.specs.Outcomes.{is_loss, short_of, with_door, with_loss}
use Rattle.serve_run.specs.Shutting.{Says}
use Rattle.serve_run.specs.Starting.{IsJoined, IsKept, IsSameSeat}
use Rattle.serve_run.specs.Tours.{workers_in}
use Rattle.serve_run.specs.declared.doors.Doors.{Doors}
use Rattle.serve_run.specs.declared.outcome.Outcome.{Outcome}
use Rattle.serve_run.specs.declared.outcome.Want.{Want}
use Rattle.serve_run.proofs.JoiningWorkers.{holds_worker, last_worker}
use Rattle.serve_run.proofs.Opening.{connection_held, IsSaid}
use Rattle.serve_run.proofs.Touring.{back_is, more_served, says_shutdown, tour_of}
use Rattle.serve_run.proofs.Numbers.{here_in, one_in}

pub some_short : {X : Type 0} (o : Option X) → is_some o ≡ true → o ≡ None → ⊥
some_short None is none = (let e : false ≡ true = is in cc)
some_short {X} (Some x) is none = (let e : Some x ≡ None = none in cc)

pub none_short : {X : Type 0} (o : Option X) → is_some o ≡ false → o ≡ None
none_short None is = refl
none_short (Some x) is = absurd (let e : true ≡ false = is in cc)

-- a worker that came to the run's end
closed_end : (end : PieceEnd) → is_loss end ≡ false → end ≡ Worked Closed
closed_end (Worked Closed) is = refl
closed_end (Worked (Stopped w)) is = absurd (let e : true ≡ false = is in cc)
closed_end (Worked WantMemory) is = absurd (let e : true ≡ false = is in cc)
closed_end DoorEnd is = absurd (let e : true ≡ false = is in cc)
closed_end DoorFailed is = absurd (let e : true ≡ false = is in cc)
closed_end (NotRunning phase) is = absurd (let e : true ≡ false = is in cc)

none_lost : (a b : Bool) → (a || b) ≡ false → (a ≡ false) × (b ≡ false)
none_lost false b is = (refl, is)
none_lost true b is = absurd (let e : true ≡ false = is in cc)

module _ {A L : Type 0} (g : Givens) (shown : L → Shown) (standing : A → Option (Standing L)) (faults ends : A → ℕ) where
  -- no door was served, as a piece wasn't started
  none_attended : (want : Want) (doors : Doors A) → Attended {A = A} {L = L} [] (Some want) doors doors
  none_attended want doors = record {
    lanes = [];
    rest = doors.lanes.items;
    before = refl;
    after = refl;
    all = λ none. absurd (let e : Some want ≡ None = none in cc);
    clients = tt;
    admin = inr (refl, refl, λ (none : Some want ≡ None). cc);
  }

  pub doors_short : (old new : Doors A) (want : Want) (lost : Bool) (v w : View Givens Entry) → new.admin ≡ old.admin → new.lanes ≡ old.lanes
      → AreServed {A = A} {L = L} g shown standing faults ends [] (short_of want lost) v w
      → DoorsServed {A = A} {L = L} g shown standing faults ends old new (short_of want lost) v w
  doors_short old new want lost v w admin lanes served = record {
    tours = [];
    attended = record {
      lanes = [];
      rest = old.lanes.items;
      before = refl;
      after = ap (λ l. l.items) lanes;
      all = λ none. absurd (let e : Some want ≡ None = none in cc);
      clients = tt;
      admin = inr (refl, admin, λ (none : Some want ≡ None). cc);
    };
    served = served;
  }

  -- the administrators' door is joined
  module _ {G : Type 0} (task : Task A G) (old new : Doors A) (v v' w j : View Givens Entry) (outcome : Outcome) (kept : IsKept v v')
      (room : v'.room + 1 ≡ v.room)
      (inner : LanesServed {A = A} {L = L} g shown standing faults ends old.lanes.items new.lanes.items outcome v' w)
      (first : View Givens Entry) (first_room : first.room ≡ 0) (door : Option A) (refused : Option Full) (end : PieceEnd)
      (joined : IsJoined {A = A} {G = G} {L = L} shown standing faults ends task first w j door refused end)
      (keeps : DoorKept {A = A} {L = L} g Administrator shown standing faults ends old.admin first joined.ran) (back : door ≡ Some new.admin) where
    pub doors_more : DoorsServed {A = A} {L = L} g shown standing faults ends old new (with_door refused end outcome) v j
    doors_more = record {
      tours = tour_of g shown standing faults ends Administrator task old.admin inner.tours v v' w j outcome kept room inner.served first first_room door refused end
          joined keeps ∷ inner.tours;
      attended = record {
        lanes = inner.tours;
        rest = inner.rest;
        before = inner.before;
        after = inner.after;
        all = inner.all;
        clients = inner.clients;
        admin = inl (
          tour_of g shown standing faults ends Administrator task old.admin inner.tours v v' w j outcome kept room inner.served first first_room door refused end
              joined keeps,
          refl,
          refl,
          refl,
          sym (back_is keeps.0 new.admin door joined.ran.door joined.door_is keeps.1 back),
        );
      };
      served =
          more_served g shown standing faults ends Administrator task old.admin inner.tours v v' w j outcome kept room inner.served first first_room door refused end
          joined keeps;
    }

  -- the doors were served, and a piece wasn't started
  pub all_short : (old new : Doors A) (outcome : Outcome) (v w : View Givens Entry) → (outcome.short ≡ None → ⊥)
      → DoorsServed {A = A} {L = L} g shown standing faults ends old new outcome v w → AllServed {A = A} {L = L} g shown standing faults ends 0 old new outcome v w
  all_short old new outcome v w short served = record {
    same = served.served.same;
    tours = served.tours;
    attended = served.attended;
    failed_is = served.served.failed_is;
    refused_is = served.served.refused_is;
    passed = served.served.passed;
    own = served.served.own;
    word = served.served.word;
    shifts = [];
    holds = served.served.holds;
    last = λ none. absurd (short none);
    below = λ k there. absurd (omega arith);
    worked = λ none. absurd (short none);
  }

  -- the doors were served, all of them
  module _ (old new : Doors A) (outcome : Outcome) (v w : View Givens Entry) (given : v.givens ≡ Some g) (calm : outcome.short ≡ None)
      (served : DoorsServed {A = A} {L = L} g shown standing faults ends old new outcome v w) where
    held : Holds {A = A} {L = L} g shown standing faults ends None served.tours [] w
    held = (let it = served.served.calm calm in subst (λ o. Holds {A = A} {L = L} g shown standing faults ends o served.tours [] w) it.0 (served.served.holds it.1))

    pub conn_held : HoldsConnection w 0
    conn_held = connection_held g shown standing faults ends served.tours [] w held

    module _ (x : View Givens Entry) (lost : Bool) (same : IsSameSeat w x) (says : lost ≡ false → Says w x) where
      same_all : IsSameSeat v x
      same_all =
          record { given = same.given ∙ served.served.same.given; base = same.base ∙ served.served.same.base; room = same.room ∙ served.served.same.room }

      by_loss : (b : Bool) → lost ≡ b → AllServed {A = A} {L = L} g shown standing faults ends 0 old new (with_loss lost outcome) v x
      by_loss true is = record {
        same = same_all;
        tours = served.tours;
        attended = served.attended;
        failed_is = served.served.failed_is;
        refused_is = served.served.refused_is;
        passed = served.served.passed;
        own = None;
        word = tt;
        shifts = [];
        holds = λ none. absurd (let e : true ≡ false = sym is ∙ (none_lost outcome.lost lost none).1 in cc);
        last = λ _ none. absurd (let e : true ≡ false = sym is ∙ (none_lost outcome.lost lost none).1 in cc);
        below = λ k there. absurd (omega arith);
        worked = λ _ _ k low. absurd (omega arith);
      }
      by_loss false is =
          let it : IsSaid {A = A} {L = L} g shown standing faults ends served.tours [] w held x =
          says_shutdown g shown standing faults ends served.tours [] w x (served.served.same.given ∙ given) held (says is) in
          record {
            same = same_all;
            tours = served.tours;
            attended = served.attended;
            failed_is = served.served.failed_is;
            refused_is = served.served.refused_is;
            passed = served.served.passed;
            own = it.own;
            word = it.word;
            shifts = [];
            holds = λ _. it.holds_it;
            last = λ _ _. it.last;
            below = λ k there. absurd (omega arith);
            worked = λ _ _ k low. absurd (omega arith);
          }

      pub all_shut : AllServed {A = A} {L = L} g shown standing faults ends 0 old new (with_loss lost outcome) v x
      all_shut = by_loss lost refl

  -- a worker wasn't started
  pub workers_short : (count : ℕ) (doors : Doors A) (want : Want) (lost : Bool) (v w : View Givens Entry)
      → AreServed {A = A} {L = L} g shown standing faults ends [] (short_of want lost) v w
      → AllServed {A = A} {L = L} g shown standing faults ends count doors doors (short_of want lost) v w
  workers_short count doors want lost v w served = record {
    same = served.same;
    tours = [];
    attended = none_attended want doors;
    failed_is = refl;
    refused_is = refl;
    passed = tt;
    own = served.own;
    word = served.word;
    shifts = [];
    holds = served.holds;
    last = λ none. absurd (let e : Some want ≡ None = none in cc);
    below = λ k there. absurd (omega arith);
    worked = λ none. absurd (let e : Some want ≡ None = none in cc);
  }

  -- a worker is joined
  module _ {G : Type 0} (task : Task A G) (fewer count : ℕ) (next : count ≡ fewer + 1) (old new : Doors A) (v v' w j : View Givens Entry) (outcome : Outcome)
      (kept : IsKept v v') (room : v'.room + 1 ≡ v.room)
      (inner : AllServed {A = A} {L = L} g shown standing faults ends fewer old new outcome v' w)
      (first : View Givens Entry) (first_room : first.room ≡ 0) (fresh : first.mine ≡ []) (door : Option A) (refused : Option Full) (end : PieceEnd)
      (joined : IsJoined {A = A} {G = G} {L = L} shown standing faults ends task first w j door refused end)
      (ended : WorkEnd) (end_is : joined.ran.end ≡ Worked ended) (worked : WorkedAs g fewer first joined.ran.seat.me.0 ended) where
    same_worker : IsSameSeat v j
    same_worker = record {
      given = ap (λ x. x.givens) joined.joined ∙ (inner.same.given ∙ kept.given);
      base = ap (λ x. x.base) joined.joined ∙ (inner.same.base ∙ kept.base);
      room = (let r : j.room ≡ w.room + joined.ran.seat.me.0.room + 1 = ap (λ x. x.room) joined.joined in
          let none : joined.ran.seat.me.0.room ≡ 0 = worked.makes.room ∙ first_room in let same = inner.same.room in omega arith);
    }

    not_yet : In fewer (workers_in inner.shifts) → ⊥
    not_yet there = (let low = inner.below fewer there in omega arith)

    closed : is_loss end ≡ false → WorkedAs g fewer first joined.ran.seat.me.0 Closed
    closed none =
        let all : Worked ended ≡ Worked Closed = sym end_is ∙ (sym joined.end_is ∙ closed_end end none) in
        let is : ended ≡ Closed = cc in
        subst (λ e. WorkedAs g fewer first joined.ran.seat.me.0 e) is worked

    by_end : (b : Bool) → (outcome.lost || is_loss end) ≡ b
        → AllServed {A = A} {L = L} g shown standing faults ends count old new (with_loss (is_loss end) outcome) v j
    by_end true is = record {
      same = same_worker;
      tours = inner.tours;
      attended = inner.attended;
      failed_is = inner.failed_is;
      refused_is = inner.refused_is;
      passed = inner.passed;
      own = None;
      word = tt;
      shifts = [];
      holds = λ none. absurd (let e : true ≡ false = sym is ∙ none in cc);
      last = λ _ none. absurd (let e : true ≡ false = sym is ∙ none in cc);
      below = λ k there. absurd (omega arith);
      worked = λ _ none. absurd (let e : true ≡ false = sym is ∙ none in cc);
    }
    by_end false is =
        let parts = none_lost outcome.lost (is_loss end) is in
        let mine = ap (λ x. x.mine) joined.joined in
        record {
          same = same_worker;
          tours = inner.tours;
          attended = inner.attended;
          failed_is = inner.failed_is;
          refused_is = inner.refused_is;
          passed = inner.passed;
          own = inner.own;
          word = inner.word;
          shifts = record { worker = fewer; stood = joined.ran.seat.me.0.seen } ∷ inner.shifts;
          holds = λ _. holds_worker g shown standing faults ends inner.own inner.tours inner.shifts w joined.ran.seat.me.0 j
              (inner.holds parts.0) fewer not_yet first fresh (closed parts.1) joined.unites mine;
          last = λ none _. last_worker g shown standing faults ends inner.own inner.tours inner.shifts w joined.ran.seat.me.0 j
              (inner.holds parts.0) fewer not_yet first fresh (closed parts.1) joined.unites mine (inner.last none parts.0);
          below = λ k there. ⊎_elim
              (λ (here : In k (fewer ∷ [])). (let same = one_in k fewer here in omega arith))
              (λ (old_ : In k (workers_in inner.shifts)). (let low = inner.below k old_ in omega arith))
              (in_either k (fewer ∷ []) (workers_in inner.shifts) there);
          worked = λ none _ k low. dite (ℕ_discrete k fewer)
              (λ (same : k ≡ fewer). in_first k (fewer ∷ []) (workers_in inner.shifts) (subst (λ z. In k (z ∷ [])) same (here_in k)))
              (λ (other : k ≡ fewer → ⊥). in_second k (fewer ∷ []) (workers_in inner.shifts) (inner.worked none parts.0 k (omega arith)));
        }

    pub workers_more : AllServed {A = A} {L = L} g shown standing faults ends count old new (with_loss (is_loss end) outcome) v j
    workers_more = by_end (outcome.lost || is_loss end) refl
