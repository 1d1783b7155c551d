-- A door's seat is joined: the run's seat holds one tour more.
use Rattle.std.proofs.Common.{◌≡◌, ℕ, ◌+◌, List, [], ◌∷◌, ◌++◌, Option, ap, ◌∙◌, subst, ⊎_elim, arith}
use Rattle.outside.specs.Accepting.{Standing}
use Rattle.outside.specs.Link.{Shown}
use Rattle.poa_base.specs.declared.Entry.{Entry}
use Rattle.poa_shared.proofs.Making.{in_either}
use Rattle.poa_history.specs.declared.givens.Givens.{Givens}
use Rattle.poa_history.specs.Owners.{owner_of, worker_of}
use Rattle.poa_history.specs.declared.full.Full.{Full}
use Rattle.seat_lock.specs.declared.view.View.{View}
use Rattle.seat_lock.specs.Histories.{times, Belongs, In}
use Rattle.seat_lock.specs.Steps.{Unites}
use Rattle.seat_lock.proofs.Calls.{at_prefix}
use Rattle.seat_lock.proofs.Histories.{prefix_self, prefix_through}
use Rattle.seat_lock.proofs.Totals.{one_at, times_both, times_here}
use Rattle.session_laws.specs.declared.peer.Peer.{Peer}
use Rattle.serve_run.specs.Doors.{DoorServed}
use Rattle.serve_run.specs.Ledgers.{IsOfConns, IsOfWorkers}
use Rattle.serve_run.specs.Visits.{conns_of}
use Rattle.serve_run.specs.declared.ran.PieceEnd.{PieceEnd}
use Rattle.serve_run.proofs.Growing.{each_later, Adds}
use Rattle.serve_run.proofs.Places.{in_first, in_second, stood_before}
use Rattle.serve_run.specs.Tours.{Tour, Shift, conns_in, workers_in, EachToured, EachWorked, HasToured, HasWorked, IsWorkersAt}
use Rattle.serve_run.specs.Holding.{Holds}
use Rattle.serve_run.proofs.Helping.{turns_more}
use Rattle.serve_run.proofs.Numbers.{no_worker}
use Rattle.serve_run.proofs.Uniting.{adds_one, adds_other, ledger_both, one_apart, other_apart}

-- what was joined in, where the other seat made no entry of it
module _ (v j : View Givens Entry) (made : List ℕ) (adds : Adds v j made) where
  worked_later : (g : Givens) (s : Shift) → ((place : ℕ) → In place made → IsWorkersAt s.worker j.seen place → ⊥) → HasWorked g s v → HasWorked g s j
  worked_later g s apart it = record {
    later = prefix_through s.stood v.seen j.seen it.later adds.grows;
    quiet = λ place there own. ⊎_elim
        (λ (i : In place v.mine). it.quiet place i
        (record { entry = own.entry; stands = stood_before v.seen j.seen place own.entry adds.grows (adds.within place i) own.stands; own = own.own }))
        (λ (i : In place made). absurd (apart place i own))
        (adds.either place there);
    closed = it.closed;
  }

  pub each_worked : (g : Givens) (shifts : List Shift) → ((w : ℕ) → In w (workers_in shifts) → (place : ℕ) → In place made → IsWorkersAt w j.seen place → ⊥)
      → EachWorked g shifts v → EachWorked g shifts j
  each_worked g [] apart each = tt
  each_worked g (s ∷ more) apart each = (
    worked_later g s (apart s.worker (in_first s.worker (s.worker ∷ []) (workers_in more) (let one = times_here s.worker in omega arith))) each.0,
    each_worked g more (λ w i. apart w (in_second w (s.worker ∷ []) (workers_in more) i)) each.1,
  )

  module _ {A L : Type 0} (g : Givens) (shown : L → Shown) (standing : A → Option (Standing L)) (faults ends : A → ℕ) where
    pub toured_later : (t : Tour A L) → ((c : ℕ) → In c (conns_of t.visits) → (place : ℕ) → In place made → Belongs owner_of j.seen place c → ⊥)
        → HasToured g shown standing faults ends t v → HasToured g shown standing faults ends t j
    toured_later t apart it = record {
      each = each_later v j made adds g t.peer shown t.visits apart it.each;
      later = prefix_through t.stood v.seen j.seen it.later adds.grows;
      cause = it.cause;
    }

    pub each_toured : (tours : List (Tour A L)) → ((c : ℕ) → In c (conns_in tours) → (place : ℕ) → In place made → Belongs owner_of j.seen place c → ⊥)
        → EachToured g shown standing faults ends tours v → EachToured g shown standing faults ends tours j
    each_toured [] apart each = tt
    each_toured (t ∷ more) apart each = (
      toured_later t (λ c i. apart c (in_first c (conns_of t.visits) (conns_in more) i)) each.0,
      each_toured more (λ c i. apart c (in_second c (conns_of t.visits) (conns_in more) i)) each.1,
    )

module _ {A L : Type 0} (g : Givens) (shown : L → Shown) (standing : A → Option (Standing L)) (faults ends : A → ℕ) (own : Option (ℕ × Entry))
    (tours : List (Tour A L)) (shifts : List Shift) (v u j : View Givens Entry) (holds : Holds {A = A} {L = L} g shown standing faults ends own tours shifts v)
    (peer : Peer) (closed door : A) (refused : Option Full) (end : PieceEnd) (first : View Givens Entry)
    (served : DoorServed {A = A} {L = L} g peer shown standing faults ends first u closed door refused end) (unites : Unites v u j)
    (mine : j.mine ≡ v.mine ++ u.mine) where
  abbrev pub tour : Tour A L
  tour = record { peer = peer; closed = closed; served = door; visits = served.visits; end = end; stood = u.seen }

  adds : Adds v j u.mine
  adds = adds_other v u j unites mine (0 ∷ conns_in tours) (conns_of served.visits) (0 ∷ workers_in shifts) [] holds.ledger served.attends.ledger

  adds' : Adds u j v.mine
  adds' = adds_one v u j unites mine (0 ∷ conns_in tours) (conns_of served.visits) (0 ∷ workers_in shifts) [] holds.ledger served.attends.ledger

  apart : (c : ℕ) → In c (0 ∷ conns_in tours) → (place : ℕ) → In place u.mine → Belongs owner_of j.seen place c → ⊥
  apart c i =
      other_apart v u j unites mine (0 ∷ conns_in tours) (conns_of served.visits) (0 ∷ workers_in shifts) [] holds.ledger served.attends.ledger c
      (holds.ledger.owned c i)

  apart' : (c : ℕ) → In c (conns_of served.visits) → (place : ℕ) → In place v.mine → Belongs owner_of j.seen place c → ⊥
  apart' c i =
      one_apart v u j unites mine (0 ∷ conns_in tours) (conns_of served.visits) (0 ∷ workers_in shifts) [] holds.ledger served.attends.ledger c
      (served.attends.ledger.owned c i)

  -- a door's seat made no entry of a worker
  no_turns : (w place : ℕ) → In place u.mine → IsWorkersAt w j.seen place → ⊥
  no_turns w place i own =
      let it = served.attends.ledger.explained place i in
      let same : it.entry ≡ own.entry = one_at j.seen place it.entry own.entry (at_prefix u.seen j.seen place it.entry unites.second it.stands) own.stands in
      ⊎_elim
      (λ (o : IsOfConns (conns_of served.visits) it.entry). no_worker it.entry o.0 w o.2 (ap worker_of same ∙ own.own))
      (λ (o : IsOfWorkers [] it.entry). (let none = o.1 in omega arith))
      it.of

  ledger_count : (c : ℕ) → times c (0 ∷ (conns_of served.visits ++ conns_in tours)) ≡ times c (0 ∷ conns_in tours) + times c (conns_of served.visits)
  ledger_count c = (let t = times_both c (conns_of served.visits) (conns_in tours) in omega arith)

  pub holds_door : Holds {A = A} {L = L} g shown standing faults ends own (tour ∷ tours) shifts j
  holds_door = record {
    ledger = ledger_both v u j unites mine (0 ∷ conns_in tours) (conns_of served.visits) (0 ∷ workers_in shifts) [] holds.ledger served.attends.ledger
        (0 ∷ conns_in (tour ∷ tours)) (0 ∷ workers_in shifts) ledger_count (λ w i. i) (λ w i. absurd (omega arith));
    turns_are =
        turns_more v j u.mine adds (workers_in shifts) (workers_in shifts) (λ w i. i) (λ place w i own. absurd (no_turns w place i own)) holds.turns_are;
    tours_are = (
      toured_later u j v.mine adds' g shown standing faults ends tour apart'
          (record { each = served.attends.each; later = prefix_self u.seen; cause = served.cause }),
      each_toured v j u.mine adds g shown standing faults ends tours (λ c i. apart c (in_second c (0 ∷ []) (conns_in tours) i)) holds.tours_are,
    );
    shifts_are = each_worked v j u.mine adds g shifts (λ w i. no_turns w) holds.shifts_are;
    own_is = λ place e there stands is. ⊎_elim
        (λ (i : In place v.mine). holds.own_is place e i (stood_before v.seen j.seen place e unites.first (holds.ledger.within place i) stands) is)
        (λ (i : In place u.mine). absurd (apart 0 (in_first 0 (0 ∷ []) (conns_in tours) (let one = times_here 0 in omega arith)) place i (e, stands, is)))
        (in_either place v.mine u.mine (subst (In place) mine there));
  }
