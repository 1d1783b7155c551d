-- A run whose links send no more than it takes meets no limit.
use Rattle.std.proofs.Common.{◌≡◌, ◌⊎◌, ℕ, suc, ◌+◌, ◌<◌, ◌≤◌, true, false, ◌||◌, cond, List, [], ◌∷◌, length, reverse, Option, Some, None, refl, sym, ap, ap₂, subst, arith, inl, inr, ⊎_elim}
use Rattle.std.specs.Prelude.{MatchOption}
use Rattle.std.proofs.lemmas.List.{reverse-reverse}
use mathlib.Core.Option.{some}
use lib.ListN.{get_elem?}
use Rattle.history_standing.specs.Arrivals.{connections}
use Rattle.outside.specs.Accepting.{Standing}
use Rattle.outside.specs.Link.{Shown}
use Rattle.poa_base.specs.declared.Call.{Call}
use Rattle.poa_base.specs.declared.Config.{Config}
use Rattle.poa_base.specs.declared.Entry.{Entry}
use Rattle.poa_base.specs.declared.SessionEnd.{SessionEnd}
use Rattle.poa_history.specs.Legal.{IsLegal, is_shutdown}
use Rattle.poa_history.specs.Limits.{filled_at}
use Rattle.poa_history.specs.Owners.{owner_of}
use Rattle.poa_history.specs.declared.full.Full.{Full}
use Rattle.poa_history.specs.declared.givens.Givens.{Givens}
use Rattle.poad_cmd.proofs.Arriving.{is_end, one_each, size_of}
use Rattle.poad_cmd.proofs.Filling.{asked, unfilled}
use Rattle.poad_cmd.proofs.Sent.{asked_in, tours_in}
use Rattle.poad_cmd.proofs.Sums.{counted, holds_as_many, total_both}
use Rattle.poad_cmd.specs.Complete.{bytes_in}
use Rattle.poad_cmd.specs.Sending.{AreSent, FitsRun, Sends, all_calls, has_shutdown}
use Rattle.seat_lock.proofs.Totals.{total_le}
use Rattle.seat_lock.specs.Histories.{total}
use Rattle.serve_run.specs.Attending.{Attended}
use Rattle.serve_run.specs.Holding.{FillsBehind, IsOwn, IsWord}
use Rattle.serve_run.specs.Outcomes.{least_in}
use Rattle.serve_run.specs.Refusals.{earlier, least_refusal, refusal_by}
use Rattle.serve_run.specs.Served.{AreConnections, EachDoor, IsLastWord, IsSession, IsTurnedAway}
use Rattle.serve_run.specs.Tours.{EachPassed, Tour, conns_in}
use Rattle.serve_run.specs.Visits.{Visit, conn_in, conns_of}
use Rattle.serve_run.specs.declared.doors.Doors.{Doors}
use Rattle.serve_run.specs.declared.outcome.Want.{Want}
use Rattle.session_laws.specs.Hearing.{Heard}
use Rattle.session_laws.specs.declared.peer.Peer.{Peer}

-- the measures of all calls
all_weigh : (weight : Heard → ℕ) (sent : List (List Heard)) → total (total weight) sent ≡ total weight (all_calls sent)
all_weigh weight [] = refl
all_weigh weight (calls ∷ sent) = let both = total_both weight calls (all_calls sent) in let rest = all_weigh weight sent in omega (arith, both, rest)

sizes_are : (calls : List Heard) → total size_of calls ≡ bytes_in calls
sizes_are [] = refl
sizes_are (heard ∷ more) = let rest = sizes_are more in omega (arith, rest)

ends_among : (calls : List Heard) → 0 < total is_end calls → has_shutdown calls ≡ true
ends_among [] any = absurd (omega (arith, any))
ends_among (heard ∷ more) any =
    elim (is_shutdown heard.call) as (λ b. 0 < cond b 1 0 + total is_end more → (b || has_shutdown more) ≡ true) [
      | true ↦ λ _. refl
      | false ↦ λ rest. ends_among more (omega (arith, rest))
    ] any

-- what is measured of the connection of a session
abbrev pub at_conn : (ℕ → ℕ) → Option ℕ → ℕ
at_conn f None = 0
at_conn f (Some c) = f c

conn_measured : (f : ℕ → ℕ) (conn : Option ℕ) → total f (conn_in conn) ≡ at_conn f conn
conn_measured f None = refl
conn_measured f (Some c) = omega arith

module _ {L : Type 0} where
  conns_measured : (f : ℕ → ℕ) (visits : List (Visit L)) → total f (conns_of visits) ≡ total (λ (x : Visit L). at_conn f x.session.conn) visits
  conns_measured f [] = refl
  conns_measured f (x ∷ earlier_visits) =
      let both = total_both f (conn_in x.session.conn) (conns_of earlier_visits) in
      let one = conn_measured f x.session.conn in
      let rest = conns_measured f earlier_visits in
      omega (arith, both, one, rest)

  module _ {A : Type 0} where
    all_measured : (f : ℕ → ℕ) (tours : List (Tour A L))
        → total f (conns_in tours) ≡ total (λ (t : Tour A L). total (λ (x : Visit L). at_conn f x.session.conn) t.visits) tours
    all_measured f [] = refl
    all_measured f (t ∷ more) =
        let both = total_both f (conns_of t.visits) (conns_in more) in
        let one = conns_measured f t.visits in
        let rest = all_measured f more in
        omega (arith, both, one, rest)

at_most_one : (conn : Option ℕ) → at_conn (λ (c : ℕ). 1) conn ≤ 1
at_most_one None = omega arith
at_most_one (Some c) = omega arith

-- one link more
one_more : (conn : Option ℕ) (e : SessionEnd) (refusal : Option Full) (entered came : ℕ) → entered ≤ came → (refusal ≡ None) ⊎ (entered < came)
    → (earlier refusal (refusal_by conn e) ≡ None) ⊎ (at_conn (λ (c : ℕ). 1) conn + entered < 1 + came)
one_more None e refusal entered came few rest = inr (omega (arith, few))
one_more (Some c) e refusal entered came few (inl none) = inl (ap (λ r. earlier r None) none)
one_more (Some c) e refusal entered came few (inr fewer) = inr (omega (arith, fewer))

-- of these links each entered, or more came than entered
module _ {L : Type 0} where
  abbrev pub entered_in : List (Visit L) → ℕ
  entered_in visits = total (λ (x : Visit L). at_conn (λ (c : ℕ). 1) x.session.conn) visits

  abbrev pub came_in : List (Visit L) → ℕ
  came_in visits = total (λ (x : Visit L). 1) visits

  no_more : (visits : List (Visit L)) → entered_in visits ≤ came_in visits
  no_more visits =
      total_le (λ (x : Visit L). at_conn (λ (c : ℕ). 1) x.session.conn) (λ (x : Visit L). 1) (λ x. at_most_one x.session.conn) visits

  visits_entered : (visits : List (Visit L)) → (least_refusal visits ≡ None) ⊎ (entered_in visits < came_in visits)
  visits_entered [] = inl refl
  visits_entered (x ∷ earlier_visits) =
      one_more x.session.conn x.session.end (least_refusal earlier_visits) (entered_in earlier_visits) (came_in earlier_visits) (no_more earlier_visits)
      (visits_entered earlier_visits)

  module _ {A : Type 0} where
    abbrev pub all_entered : List (Tour A L) → ℕ
    all_entered tours = total (λ (t : Tour A L). entered_in t.visits) tours

    abbrev pub all_came : List (Tour A L) → ℕ
    all_came tours = total (λ (t : Tour A L). came_in t.visits) tours

    none_more : (tours : List (Tour A L)) → all_entered tours ≤ all_came tours
    none_more tours = total_le (λ (t : Tour A L). entered_in t.visits) (λ (t : Tour A L). came_in t.visits) (λ t. no_more t.visits) tours

    tours_entered : (tours : List (Tour A L)) → (least_in tours ≡ None) ⊎ (all_entered tours < all_came tours)
    tours_entered [] = inl refl
    tours_entered (t ∷ more) =
        let few = no_more t.visits in
        let others = none_more more in
        ⊎_elim
        (λ (none : least_in more ≡ None). ⊎_elim
        (λ (here : least_refusal t.visits ≡ None). inl (ap₂ earlier none here))
        (λ (fewer : entered_in t.visits < came_in t.visits). inr (omega (arith, fewer, others)))
        (visits_entered t.visits))
        (λ (fewer : all_entered more < all_came more). inr (omega (arith, fewer, few)))
        (tours_entered more)

module _ {A L : Type 0} (g : Givens) (shown : L → Shown) (standing : A → Option (Standing L)) (faults : A → ℕ) (h : List Entry) (tours : List (Tour A L)) (short : Option Want)
    (old new : Doors A) (sent : List (List Heard)) (at : Attended {A = A} {L = L} tours short old new) (are : AreSent {A = A} {L = L} shown standing old sent)
    (passed : EachPassed {A = A} {L = L} standing faults tours) (each : EachDoor {A = A} {L = L} g shown (reverse h) tours) where
  -- what the connections asked for is among what the links send
  module _ (weight : Heard → ℕ) (least : ℕ → ℕ) (weighs : (call : Call) (size : ℕ) → least size ≤ weight (record { call = call; size = size })) where
    asked_at : (peer : Peer) (x : Visit L) (calls : List Heard) (conn : Option ℕ)
        → MatchOption conn (IsTurnedAway (reverse h) x.session.end) (λ c. IsSession g peer (reverse h) (shown x.before) (shown x.after) c x.session.end)
        → Sends peer (shown x.before) calls → at_conn (asked weight least h) conn ≤ total weight calls
    asked_at peer x calls None is sends = omega arith
    asked_at peer x calls (Some c) is sends = asked_in g weight least weighs peer h (shown x.before) (shown x.after) c x.session.end calls is sends

    pub all_asked : total (asked weight least h) (conns_in tours) ≤ total weight (all_calls sent)
    all_asked =
        let within = tours_in {L = L} g shown h (λ x. at_conn (asked weight least h) x.session.conn) (total weight)
        (λ peer x calls is sends. asked_at peer x calls x.session.conn is sends) {A = A} standing faults tours short old new sent at are passed each in
        let conns = all_measured {L = L} {A = A} (asked weight least h) tours in
        let all = all_weigh weight sent in
        omega (arith, within, conns, all)

  came_few : all_came {L = L} {A = A} tours ≤ length sent
  came_few =
      let within = tours_in {L = L} g shown h (λ x. 1) (λ calls. 1) (λ peer x calls is sends. omega arith) {A = A} standing faults tours short old new sent at are passed each in
      let all = counted sent in
      omega (arith, within, all)

  -- fewer connections than a run may have entered, or each link's did
  pub few_or_none : AreConnections (conns_in tours) (reverse h) → length sent < 4000000 → (connections h < 4000000) ⊎ (least_in tours ≡ None)
  few_or_none conns few = ⊎_elim
      (λ (none : least_in tours ≡ None). inr none)
      (λ (fewer : all_entered {L = L} {A = A} tours < all_came {L = L} {A = A} tours).
      (let all : connections h ≤ suc (length (conns_in tours)) =
      holds_as_many (connections h) (conns_in tours)
      (λ c above below. conns.all c above (subst (λ l. c < connections l) (sym (reverse-reverse h)) below)) in
      let entered = all_measured {L = L} {A = A} (λ (c : ℕ). 1) tours in
      let count = counted (conns_in tours) in
      let came = came_few in
      inl (omega (arith, fewer, all, entered, count, came, few))))
      (tours_entered {L = L} {A = A} tours)

  pub never_filled : (c : Config) (run limit : ℕ) → IsLegal c run limit h → AreConnections (conns_in tours) (reverse h) → (last : Option (ℕ × Entry)) → IsWord last
      → ((place : ℕ) (e : Entry) → get_elem? (reverse h) place ≡ some e → owner_of e ≡ Some 0 → IsOwn last place e)
      → IsLastWord last (reverse h) → FillsBehind last (reverse h) → FitsRun limit sent → filled_at h ≡ None
  never_filled c run limit legal conns last word own last_word behind fits =
      unfilled c run limit h legal (conns_in tours) conns last word own last_word behind (length (all_calls sent)) (bytes_in (all_calls sent))
      (total is_end (all_calls sent)) (record {
        calls_in = (let a = all_asked one_each (λ size. 1) (λ call size. omega arith) in let n = counted (all_calls sent) in omega (arith, a, n));
        bytes_in = (let a = all_asked size_of (λ size. size) (λ call size. omega arith) in let n = sizes_are (all_calls sent) in omega (arith, a, n));
        ends_in = all_asked is_end (λ size. 0) (λ call size. omega arith);
        few = fits.few;
        small = fits.small;
        behind = λ any. fits.own (ends_among (all_calls sent) any);
      })
