-- Which connections and sessions a run had, by the whole journal.
use Rattle.std.proofs.Common.{◌≡◌, ℕ, ◌≤◌, ◌<◌, Bool, true, false, List, [], ◌∷◌, ◌++◌, length, reverse, Option, Some, None, refl, sym, ap, ◌∙◌, subst, ◌⊎◌, ⊎_elim, arith}
use Rattle.std.specs.Prelude.{MatchOption}
use Rattle.std.proofs.lemmas.Bool.{true≢false}
use Rattle.std.proofs.lemmas.List.{append_assoc, length-append, reverse-reverse}
use mathlib.Core.Logic.{dite}
use mathlib.Core.Option.{some}
use native.Mathlib.Decide.{ℕ_discrete}
use lib.ListN.{get_elem?}
use Rattle.outside.specs.Accepting.{Standing}
use Rattle.outside.specs.Link.{Shown}
use Rattle.poa_base.specs.declared.Entry.{Entry}
use Rattle.poa_base.specs.declared.Entry.TheVariants.{Entered, Abandon}
use Rattle.poa_base.specs.declared.SessionEnd.{SessionEnd}
use Rattle.history_standing.specs.Stages.{is_abandoned}
use Rattle.poa_session.specs.Served.{RefusedAs, ServedAs}
use Rattle.poa_shared.specs.Helping.{IsHelpAt}
use Rattle.poa_shared.proofs.Making.{in_either}
use Rattle.poa_history.specs.declared.givens.Givens.{Givens}
use Rattle.poa_history.specs.Owners.{owner_of, worker_of, HasNone}
use Rattle.poa_history.specs.GivenRuns.{IsLog}
use Rattle.seat_lock.specs.declared.view.View.{View}
use Rattle.seat_lock.specs.Histories.{Belongs, In, IsPrefix}
use Rattle.seat_lock.proofs.Totals.{at_below, one_at, times_both, times_here}
use Rattle.seat_lock.proofs.Lists.{at_last, at_longer}
use Rattle.session_laws.specs.declared.peer.Peer.{Peer}
use Rattle.session_laws.specs.Sessions.{Session}
use Rattle.serve_run.specs.Ledgers.{IsOfConns, IsOfWorkers}
use Rattle.serve_run.specs.Visits.{Visit, Visited, EachVisited}
use Rattle.serve_run.proofs.Entering.{entered_low}
use Rattle.serve_run.proofs.Places.{in_second, stood_before}
use Rattle.serve_run.specs.Tours.{Tour, Shift, conns_in, workers_in, EachToured, EachWorked, HasWorked}
use Rattle.serve_run.specs.Holding.{Holds}
use Rattle.serve_run.specs.Served.{AreConnections, EachDoor, EachSession, NoneGaveUp, IsSession, IsTurnedAway}
use Rattle.serve_run.proofs.Whole.{abandoned_at, entered_at, stands_abandoned, IsWhole}
use Rattle.serve_run.proofs.Helping.{help_going}
use Rattle.serve_run.proofs.Numbers.{no_worker, one_in}

-- the shift of a worker
pub shift_of : (g : Givens) (v : View Givens Entry) (shifts : List Shift) (w : ℕ) → EachWorked g shifts v → In w (workers_in shifts) → (s : Shift)
    × (s.worker ≡ w) × HasWorked g s v
shift_of g v [] w each there = absurd (omega arith)
shift_of g v (s ∷ more) w each there = ⊎_elim
    (λ (here : In w (s.worker ∷ [])). (s, sym (one_in w s.worker here), each.0))
    (λ (later : In w (workers_in more)). shift_of g v more w each.1 later)
    (in_either w (s.worker ∷ []) (workers_in more) there)

-- what stays of a connection that made nothing more
none_after : (c : ℕ) (short rest : List Entry) → ((x : ℕ) → length short ≤ x → Belongs owner_of (short ++ rest) x c → ⊥) → HasNone c rest
none_after c short [] none = tt
none_after c short (e ∷ rest) none = (
  (λ own. none (length short) (omega arith) (e, at_next, own)),
  none_after c (short ++ e ∷ []) rest
      (λ x far b. none x (let long = length-append short (e ∷ []) in omega arith) (subst (λ l. Belongs owner_of l x c) (append_assoc short (e ∷ []) rest) b)),
)
  where
    at_next : get_elem? (short ++ e ∷ rest) (length short) ≡ some e
    at_next =
        subst (λ l. get_elem? l (length short) ≡ some e) (append_assoc short (e ∷ []) rest)
        (at_longer (short ++ e ∷ []) rest (length short) e (at_last short e (length short) refl))

-- a session stays what it is while others make entries of the run
abbrev pub Stays : Givens → Type 0
Stays g = (peer : Peer) (log more : List Entry) (c : ℕ) (text out : List ℕ) (end : SessionEnd) → IsLog g (log ++ more) → HasNone c more
    → Session g peer log c text out end → Session g peer (log ++ more) c text out end

module _ {A L : Type 0} (g : Givens) (shown : L → Shown) (standing : A → Option (Standing L)) (faults ends : A → ℕ) (own : Option (ℕ × Entry))
    (tours : List (Tour A L)) (shifts : List Shift) (v : View Givens Entry) (holds : Holds {A = A} {L = L} g shown standing faults ends own tours shifts v)
    (log : List Entry) (is_whole : IsWhole v log) (runs : IsLog g log) where
  -- each place of the journal is explained
  pub made : (x : ℕ) (e : Entry) → get_elem? log x ≡ some e → In x v.mine
  made x e at = is_whole.all x (at_below v.seen x e (subst (λ l. get_elem? l x ≡ some e) is_whole.seen at))

  pub in_seen : (x : ℕ) (e : Entry) → get_elem? log x ≡ some e → get_elem? v.seen x ≡ some e
  in_seen x e at = subst (λ l. get_elem? l x ≡ some e) is_whole.seen at

  -- an entry of a worker is one of a shift, or was made in its stead
  pub works_here : (w x : ℕ) (e : Entry) → get_elem? log x ≡ some e → worker_of e ≡ Some w → In w (workers_in shifts) ⊎ IsHelpAt v.seen x
  works_here w x e at works = holds.turns_are x w (made x e at) (record { entry = e; stands = in_seen x e at; own = works })

  -- an entry of a connection but the first is one of a door's
  pub came_by_door : (c x : ℕ) (e : Entry) → get_elem? log x ≡ some e → owner_of e ≡ Some c → 0 < c → In c (conns_in tours)
  came_by_door c x e at owned above =
      let it = holds.ledger.explained x (made x e at) in
      let same : it.entry ≡ e = one_at v.seen x it.entry e it.stands (in_seen x e at) in
      ⊎_elim
      (λ (o : IsOfConns (0 ∷ conns_in tours) it.entry).
      (let q : Some o.0 ≡ Some c = sym o.2 ∙ (ap owner_of same ∙ owned) in
      let k : o.0 ≡ c = cc in
      ⊎_elim
      (λ (first : In c (0 ∷ [])). absurd (let zero_ = one_in c 0 first in omega arith))
      (λ (other : In c (conns_in tours)). other)
      (in_either c (0 ∷ []) (conns_in tours) (subst (λ z. In z (0 ∷ conns_in tours)) k o.1))))
      (λ (o : IsOfWorkers (0 ∷ workers_in shifts) it.entry). absurd (no_worker it.entry c o.0 (ap owner_of same ∙ owned) o.2))
      it.of

  by_shift : (w x : ℕ) (e : Entry) → In w (workers_in shifts) → get_elem? log x ≡ some e → worker_of e ≡ Some w → (s : Shift) × (s.worker ≡ w) × HasWorked g s v
      × (x < length s.stood)
  by_shift w x e there at works =
      let s = shift_of g v shifts w holds.shifts_are there in
      (s.0, s.1, s.2, s.2.quiet x (made x e at) (record { entry = e; stands = in_seen x e at; own = works ∙ ap Some (sym s.1) }))

  -- a worker that closed had not given the run up, nor did it later
  none_gave_up : (w x : ℕ) → get_elem? log x ≡ some (Abandon w) → In w (workers_in shifts) → ⊥
  none_gave_up w x there i =
      let s = by_shift w x (Abandon w) i there refl in
      let stood : get_elem? s.0.stood x ≡ some (Abandon w) = stood_before s.0.stood v.seen x (Abandon w) s.2.later s.3 (in_seen x (Abandon w) there) in
      let gave : is_abandoned (reverse s.0.stood) s.0.worker ≡ true = stands_abandoned (reverse s.0.stood) s.0.worker x
      (subst (λ l. get_elem? l x ≡ some (Abandon s.0.worker)) (sym (reverse-reverse s.0.stood))
      (subst (λ k. get_elem? s.0.stood x ≡ some (Abandon k)) (sym s.1) stood)) in
      true≢false (sym gave ∙ s.2.closed.going)

  -- nobody gave the run up
  pub none_abandoned : NoneGaveUp log
  none_abandoned w = by_bool (is_abandoned (reverse log) w) refl
    where
      by_bool : (b : Bool) → is_abandoned (reverse log) w ≡ b → b ≡ false
      by_bool false is = refl
      by_bool true is = absurd
          (let at = abandoned_at (reverse log) w is in
          let there : get_elem? log at.0 ≡ some (Abandon w) = subst (λ l. get_elem? l at.0 ≡ some (Abandon w)) (reverse-reverse log) at.1 in
          ⊎_elim
          (λ (i : In w (workers_in shifts)). none_gave_up w at.0 there i)
          (λ (help : IsHelpAt v.seen at.0). help_going v.seen at.0 help w (in_seen at.0 (Abandon w) there))
          (works_here w at.0 (Abandon w) there refl))

  -- the connections of the doors are those of the journal but the first
  pub connections_are : AreConnections (conns_in tours) log
  connections_are = record {
    all = λ c above low.
        (let at = entered_at g (reverse log) runs.legal c low in
        let there : get_elem? log at.0 ≡ some (Entered c) = subst (λ l. get_elem? l at.0 ≡ some (Entered c)) (reverse-reverse log) at.1 in
        came_by_door c at.0 (Entered c) there refl above);
    only = λ c there.
        (let owns = holds.ledger.owned c (in_second c (0 ∷ []) (conns_in tours) there) in
        let entered : get_elem? (reverse (reverse log)) owns.place ≡ some (Entered c) =
        subst (λ l. get_elem? l owns.place ≡ some (Entered c)) (sym (reverse-reverse log ∙ is_whole.seen)) owns.entered in
        (above c there, entered_low g.config g.run g.limit (reverse log) owns.place c runs.legal entered));
    once = λ c. (let all_once = holds.ledger.once c in let t = times_both c (0 ∷ []) (conns_in tours) in omega arith);
  }
    where
      above : (c : ℕ) → In c (conns_in tours) → 0 < c
      above c there = dite (ℕ_discrete c 0)
          (λ (zero_ : c ≡ 0). absurd
          (let there' : In 0 (conns_in tours) = subst (λ k. In k (conns_in tours)) zero_ there in let once = holds.ledger.once 0 in let here = times_here 0 in
          omega arith))
          (λ (other : c ≡ 0 → ⊥). omega arith)

  -- and their sessions are what they are by the whole journal
  module _ (stays : Stays g) where
    session_is : (peer : Peer) (x : Visit L) → Visited g peer shown x v → (c : ℕ) → x.session.conn ≡ Some c → (opening closing : View Givens Entry)
        → IsPrefix closing.seen v.seen → ((place : ℕ) → In place v.mine → Belongs owner_of v.seen place c → place < length closing.seen)
        → ServedAs g peer opening closing (shown x.before) (shown x.after) c x.session.end
        → IsSession g peer log (shown x.before) (shown x.after) c x.session.end
    session_is peer x visited c is opening closing later quiet told =
        let grown : log ≡ closing.seen ++ later.0 = is_whole.seen ∙ later.1 in
        let none : HasNone c later.0 = none_after c closing.seen later.0 (λ k far b.
        (let b' : Belongs owner_of v.seen k c = subst (λ l. Belongs owner_of l k c) (sym later.1) b in
        let low = quiet k (is_whole.all k (at_below v.seen k b'.0 b'.1)) b' in omega arith)) in
        record {
          text = told.text;
          out = told.out;
          moved = told.moved;
          few = told.few;
          session =
              subst (λ l. Session g peer l c told.text told.out x.session.end) (sym grown)
              (stays peer closing.seen later.0 c told.text told.out x.session.end (subst (IsLog g) grown runs) none told.session);
          stood = told.stood;
          left = subst (λ l. IsPrefix l log) told.left (later.0, grown);
          cause = told.cause;
          read_fault = told.read_fault;
          write_fault = told.write_fault;
          dry = told.dry;
        }

    visit_is : (peer : Peer) (x : Visit L) → Visited g peer shown x v
        → MatchOption x.session.conn (IsTurnedAway log x.session.end) (λ c. IsSession g peer log (shown x.before) (shown x.after) c x.session.end)
    visit_is peer x visited = by_conn x.session.conn refl visited.served.told
      where
        by_conn : (o : Option ℕ) → x.session.conn ≡ o
            → MatchOption o (RefusedAs peer visited.opening visited.closing (shown x.before) (shown x.after) x.session.end)
            (λ c. ServedAs g peer visited.opening visited.closing (shown x.before) (shown x.after) c x.session.end)
            → MatchOption o (IsTurnedAway log x.session.end) (λ c. IsSession g peer log (shown x.before) (shown x.after) c x.session.end)
        by_conn None is told = (visited.closing.seen, subst (IsPrefix visited.closing.seen) (sym is_whole.seen) visited.later, told.cause)
        by_conn (Some c) is told = session_is peer x visited c is visited.opening visited.closing visited.later (visited.gone c is).quiet told

    visits_are : (peer : Peer) (visits : List (Visit L)) → EachVisited g peer shown visits v → EachSession {L = L} g shown log peer visits
    visits_are peer [] each = tt
    visits_are peer (x ∷ earlier) each = (visit_is peer x each.0, visits_are peer earlier each.1)

    pub sessions_are : (some_tours : List (Tour A L)) → EachToured {A = A} {L = L} g shown standing faults ends some_tours v
        → EachDoor {A = A} {L = L} g shown log some_tours
    sessions_are [] each = tt
    sessions_are (t ∷ more) each = (visits_are t.peer t.visits each.0.each, sessions_are more each.1)
