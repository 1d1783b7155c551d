-- A worker's seat is joined: the run's seat holds one shift more.
use Rattle.std.proofs.Common.{◌≡◌, ℕ, ◌<◌, List, [], ◌∷◌, ◌++◌, length, Option, Some, sym, ap, ◌∙◌, subst, inl, inr, ⊎_elim, arith}
use Rattle.outside.specs.Accepting.{Standing}
use Rattle.outside.specs.Link.{Shown}
use Rattle.poa_base.specs.declared.Entry.{Entry}
use Rattle.poa_shared.specs.Helping.{IsHelpAt}
use Rattle.poa_shared.specs.Worked.{IsMadeAt, IsTurnAt, Worked}
use Rattle.poa_shared.specs.declared.work_end.WorkEnd.TheVariants.{Closed}
use Rattle.poa_shared.proofs.Helped.{help_stays}
use Rattle.poa_shared.proofs.Making.{in_either, makes_all}
use Rattle.poa_history.specs.declared.givens.Givens.{Givens}
use Rattle.poa_history.specs.Owners.{owner_of, worker_of}
use Rattle.seat_lock.specs.declared.view.View.{View}
use Rattle.seat_lock.specs.Histories.{Belongs, In}
use Rattle.seat_lock.specs.Steps.{Unites}
use Rattle.seat_lock.proofs.Calls.{at_prefix}
use Rattle.seat_lock.proofs.Totals.{one_at}
use Rattle.serve_run.specs.Ledgers.{IsOfConns, IsOfWorkers, Ledger}
use Rattle.serve_run.proofs.Growing.{Adds}
use Rattle.serve_run.proofs.Places.{in_first, in_second, stood_before}
use Rattle.serve_run.specs.Tours.{Tour, Shift, conns_in, workers_in, IsWorkersAt}
use Rattle.serve_run.specs.Holding.{Holds, IsLast}
use Rattle.serve_run.proofs.Closing.{belongs_before}
use Rattle.serve_run.proofs.Uniting.{adds_other, ledger_both, other_apart}
use Rattle.serve_run.proofs.Helping.{help_early, turns_more}
use Rattle.serve_run.proofs.JoiningDoors.{each_toured, each_worked}
use Rattle.serve_run.proofs.Lasting.{had_longer}
use Rattle.serve_run.proofs.Numbers.{here_in, one_in}

module _ (g : Givens) (worker : ℕ) (first u : View Givens Entry) (fresh : first.mine ≡ []) (worked : Worked g worker first u Closed) where
  -- all that its seat made are turns of it
  turn_at : (place : ℕ) → In place u.mine → IsTurnAt worker u.seen place
  turn_at = makes_all (IsMadeAt Closed worker) first u fresh worked.makes

  -- a worker's seat made its turns alone
  pub ledger_worked : Ledger [] (worker ∷ []) u
  ledger_worked = record {
    explained = λ place there. (let it = turn_at place there in
        record { entry = it.entry; stands = it.stands; of = inr (worker, here_in worker, it.own) });
    closed = worked.knows.closed;
    within = worked.knows.within;
    owned = λ c there. absurd (omega arith);
    once = λ c. omega arith;
  }

module _ {A L : Type 0} (g : Givens) (shown : L → Shown) (standing : A → Option (Standing L)) (faults ends : A → ℕ) (own : Option (ℕ × Entry))
    (tours : List (Tour A L)) (shifts : List Shift) (v u j : View Givens Entry) (holds : Holds {A = A} {L = L} g shown standing faults ends own tours shifts v)
    (worker : ℕ) (new_one : In worker (workers_in shifts) → ⊥) (first : View Givens Entry) (fresh : first.mine ≡ []) (worked : Worked g worker first u Closed)
    (unites : Unites v u j) (mine : j.mine ≡ v.mine ++ u.mine) where
  abbrev pub shift : Shift
  shift = record { worker = worker; stood = u.seen }

  other : Ledger [] (worker ∷ []) u
  other = ledger_worked g worker first u fresh worked

  adds : Adds v j u.mine
  adds = adds_other v u j unites mine (0 ∷ conns_in tours) [] (0 ∷ workers_in shifts) (worker ∷ []) holds.ledger other

  apart : (c : ℕ) → In c (0 ∷ conns_in tours) → (place : ℕ) → In place u.mine → Belongs owner_of j.seen place c → ⊥
  apart c i = other_apart v u j unites mine (0 ∷ conns_in tours) [] (0 ∷ workers_in shifts) (worker ∷ []) holds.ledger other c (holds.ledger.owned c i)

  -- its seat made no turn of another worker, and the run's seat made none of it
  no_others : (w : ℕ) → In w (workers_in shifts) → (place : ℕ) → In place u.mine → IsWorkersAt w j.seen place → ⊥
  no_others w i place there at =
      let it = other.explained place there in
      let same : it.entry ≡ at.entry = one_at j.seen place it.entry at.entry (at_prefix u.seen j.seen place it.entry unites.second it.stands) at.stands in
      ⊎_elim
      (λ (o : IsOfConns [] it.entry). (let none = o.1 in omega arith))
      (λ (o : IsOfWorkers (worker ∷ []) it.entry).
      (let e : Some o.0 ≡ Some w = sym o.2 ∙ (ap worker_of same ∙ at.own) in
      let k : o.0 ≡ w = cc in
      new_one (subst (λ x. In x (workers_in shifts)) (sym k ∙ one_in o.0 worker o.1) i)))
      it.of

  -- what was made in its stead came before it saw a `shutdown` admitted
  before : (place : ℕ) → In place v.mine → IsWorkersAt worker j.seen place → place < length u.seen
  before place there at = ⊎_elim
      (λ (i : In worker (workers_in shifts)). absurd (new_one i))
      (λ (help : IsHelpAt v.seen place). help_early j.seen place (help_stays v.seen j.seen place unites.first help) u.seen unites.second worked.cause.shut)
      (holds.turns_are place worker there
      (record { entry = at.entry; stands = stood_before v.seen j.seen place at.entry unites.first (holds.ledger.within place there) at.stands; own = at.own }))

  -- each entry that its seat made is one of it
  is_own : (place w : ℕ) → In place u.mine → IsWorkersAt w j.seen place → In w (workers_in (shift ∷ shifts))
  is_own place w there at =
      let it = turn_at g worker first u fresh worked place there in
      let same : it.entry ≡ at.entry = one_at j.seen place it.entry at.entry (at_prefix u.seen j.seen place it.entry unites.second it.stands) at.stands in
      let e : Some worker ≡ Some w = sym it.own ∙ (ap worker_of same ∙ at.own) in
      let k : worker ≡ w = cc in
      in_first w (worker ∷ []) (workers_in shifts) (subst (λ z. In z (worker ∷ [])) k (here_in worker))

  more_workers : (w : ℕ) → In w (0 ∷ workers_in shifts) → In w (0 ∷ workers_in (shift ∷ shifts))
  more_workers w i = ⊎_elim
      (λ (first_one : In w (0 ∷ [])). in_first w (0 ∷ []) (worker ∷ workers_in shifts) first_one)
      (λ (other_one : In w (workers_in shifts)). in_second w (0 ∷ []) (worker ∷ workers_in shifts) (in_second w (worker ∷ []) (workers_in shifts) other_one))
      (in_either w (0 ∷ []) (workers_in shifts) i)

  own_worker : (w : ℕ) → In w (worker ∷ []) → In w (0 ∷ workers_in (shift ∷ shifts))
  own_worker w i = in_second w (0 ∷ []) (worker ∷ workers_in shifts) (in_first w (worker ∷ []) (workers_in shifts) i)

  pub holds_worker : Holds {A = A} {L = L} g shown standing faults ends own tours (shift ∷ shifts) j
  holds_worker = record {
    ledger = ledger_both v u j unites mine (0 ∷ conns_in tours) [] (0 ∷ workers_in shifts) (worker ∷ []) holds.ledger other
        (0 ∷ conns_in tours) (0 ∷ workers_in (shift ∷ shifts)) (λ c. omega arith) more_workers own_worker;
    turns_are =
        turns_more v j u.mine adds (workers_in shifts) (workers_in (shift ∷ shifts)) (λ w i. in_second w (worker ∷ []) (workers_in shifts) i)
        (λ place w i at. inl (is_own place w i at)) holds.turns_are;
    tours_are = each_toured v j u.mine adds g shown standing faults ends tours (λ c i. apart c (in_second c (0 ∷ []) (conns_in tours) i)) holds.tours_are;
    shifts_are = (
      record {
        later = unites.second;
        quiet = λ place there at. ⊎_elim
            (λ (i : In place v.mine). before place i at)
            (λ (i : In place u.mine). worked.knows.within place i)
            (in_either place v.mine u.mine (subst (In place) mine there));
        closed = worked.cause;
      },
      each_worked v j u.mine adds g shifts no_others holds.shifts_are,
    );
    own_is = λ place e there stands is. ⊎_elim
        (λ (i : In place v.mine). holds.own_is place e i (stood_before v.seen j.seen place e unites.first (holds.ledger.within place i) stands) is)
        (λ (i : In place u.mine). absurd (apart 0 (in_first 0 (0 ∷ []) (conns_in tours) (here_in 0)) place i (e, stands, is)))
        (in_either place v.mine u.mine (subst (In place) mine there));
  }

  pub last_worker : IsLast {A = A} {L = L} own tours v → IsLast {A = A} {L = L} own tours j
  last_worker last = record {
    ended = last.ended;
    left = λ place e is k c there i b. ⊎_elim
        (λ (old : In k v.mine). last.left place e is k c old i (belongs_before owner_of v.seen j.seen unites.first k c (holds.ledger.within k old) b))
        (λ (new : In k u.mine). absurd (apart c (in_second c (0 ∷ []) (conns_in tours) i) k new b))
        (in_either k v.mine u.mine (subst (In k) mine there));
    behind = λ place size is. had_longer v.seen j.seen unites.first (last.behind place size is);
  }
