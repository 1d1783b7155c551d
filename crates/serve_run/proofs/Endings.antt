-- Where every worker closed, the run is over.
use Rattle.std.proofs.Common.{◌≡◌, ℕ, ◌≤◌, ◌<◌, true, List, [], ◌∷◌, ◌++◌, length, reverse, Option, Some, None, refl, sym, ap, ◌∙◌, subst, ⊎_elim, arith}
use Rattle.std.specs.Prelude.{MatchOption}
use Rattle.std.proofs.lemmas.Bool.{cases_lt}
use Rattle.std.proofs.lemmas.List.{append-nil, reverse-reverse}
use mathlib.Core.Logic.{dite}
use mathlib.Core.Option.{some}
use native.Mathlib.Decide.{ℕ_discrete}
use lib.ListN.{get_elem?}
use Rattle.outside.specs.Accepting.{Standing}
use Rattle.outside.specs.Link.{Shown}
use Rattle.poa_base.specs.declared.Call.{Call}
use Rattle.poa_base.specs.declared.Entry.{Entry}
use Rattle.poa_base.specs.declared.Entry.TheVariants.{Entered, Arrive}
use Rattle.history_standing.specs.Arrivals.{arrivals, conn_of, connections}
use Rattle.history_standing.specs.Changes.{standing}
use Rattle.poa_history.specs.Replies.{decided}
use Rattle.history_standing.specs.Stages.{stage}
use Rattle.history_standing.specs.declared.stage.Stage.TheVariants.{Free}
use Rattle.poa_session.specs.Served.{RefusedAs, ServedAs}
use Rattle.history_standing.specs.Trees.{In as IsAmong}
use Rattle.history_laws.specs.Closing.{HasNoTurn, IsOver}
use Rattle.history_laws.proofs.Freed.{freed}
use Rattle.history_laws.proofs.LateCalls.{late}
use Rattle.history_laws.proofs.Over.{closed_over, history_before}
use Rattle.poa_shared.specs.Helping.{IsHelpAt}
use Rattle.poa_shared.proofs.Making.{in_either}
use Rattle.poa_history.specs.declared.givens.Givens.{Givens}
use Rattle.poa_history.specs.Owners.{owner_of, worker_of}
use Rattle.poa_history.specs.GivenRuns.{IsHistory, IsLog}
use Rattle.seat_lock.specs.declared.view.View.{View}
use Rattle.seat_lock.specs.Histories.{times, Belongs, In, IsPrefix}
use Rattle.seat_lock.proofs.Calls.{at_prefix}
use Rattle.seat_lock.proofs.Histories.{prefix_shorter}
use Rattle.seat_lock.proofs.Lists.{at_longer}
use Rattle.seat_lock.proofs.Totals.{at_below}
use Rattle.session_laws.specs.Records.{is_late}
use Rattle.session_laws.specs.declared.peer.Peer.{Peer}
use Rattle.serve_run.specs.Visits.{Visit, Visited, EachVisited, conn_in, conns_of}
use Rattle.serve_run.proofs.Entering.{entered_low, entered_once}
use Rattle.serve_run.proofs.Places.{stood_before}
use Rattle.serve_run.specs.Tours.{Tour, Shift, conns_in, workers_in, EachToured, EachWorked, HasWorked}
use Rattle.serve_run.specs.Holding.{Holds}
use Rattle.serve_run.specs.Served.{IsRunOver}
use Rattle.serve_run.proofs.Helping.{help_first}
use Rattle.serve_run.proofs.Lasting.{all_behind, arrived_at, late_behind, no_turn_of, none_arrived, reversed_more, stage_stays}
use Rattle.serve_run.proofs.Sessions.{came_by_door, in_seen, made, works_here}
use Rattle.serve_run.proofs.Whole.{IsWhole}
use Rattle.serve_run.proofs.Numbers.{one_in}

-- no shift saw more than this
abbrev pub AreShorter : ℕ → List Shift → Type 0
AreShorter n [] = Unit {0}
AreShorter n (s ∷ more) = (length s.stood ≤ n) × AreShorter n more

shorter_more : (n m : ℕ) (shifts : List Shift) → n ≤ m → AreShorter n shifts → AreShorter m shifts
shorter_more n m [] less each = tt
shorter_more n m (s ∷ more) less each = ((let low = each.0 in omega arith), shorter_more n m more less each.1)

module _ (g : Givens) (v : View Givens Entry) where
  -- the shift that saw most
  pub longest : (s : Shift) (more : List Shift) → EachWorked g (s ∷ more) v → (r : Shift) × HasWorked g r v × AreShorter (length r.stood) (s ∷ more)
  longest s [] each = (s, each.0, (omega arith, tt))
  longest s (t ∷ more) each =
      let rest = longest t more each.1 in
      ⊎_elim
      (λ (less : length s.stood < length rest.0.stood). (rest.0, rest.1, (omega arith, rest.2)))
      (λ (most : length rest.0.stood ≤ length s.stood). (s, each.0, (omega arith, shorter_more (length rest.0.stood) (length s.stood) (t ∷ more) most rest.2)))
      (cases_lt (length s.stood) (length rest.0.stood))

  pub shift_within : (n : ℕ) (shifts : List Shift) (w : ℕ) → EachWorked g shifts v → AreShorter n shifts → In w (workers_in shifts) → (s : Shift)
      × (s.worker ≡ w) × HasWorked g s v × (length s.stood ≤ n)
  shift_within n [] w each shorter there = absurd (omega arith)
  shift_within n (s ∷ more) w each shorter there = ⊎_elim
      (λ (here : In w (s.worker ∷ [])). (s, sym (one_in w s.worker here), each.0, shorter.0))
      (λ (later : In w (workers_in more)). shift_within n more w each.1 shorter.1 later)
      (in_either w (s.worker ∷ []) (workers_in more) there)

-- the visit by which a connection entered
module _ {A L : Type 0} (g : Givens) (shown : L → Shown) (standing_of : A → Option (Standing L)) (faults ends : A → ℕ) (v : View Givens Entry) where
  pub visit_of : (peer : Peer) (visits : List (Visit L)) (c : ℕ) → EachVisited g peer shown visits v → In c (conns_of visits) → (x : Visit L)
      × Visited g peer shown x v × (x.session.conn ≡ Some c)
  visit_of peer [] c each there = absurd (omega arith)
  visit_of peer (x ∷ earlier) c each there = ⊎_elim
      (λ (here : In c (conn_in x.session.conn)). (x, each.0, own_conn x.session.conn here))
      (λ (later : In c (conns_of earlier)). visit_of peer earlier c each.1 later)
      (in_either c (conn_in x.session.conn) (conns_of earlier) there)
    where
      own_conn : (o : Option ℕ) → In c (conn_in o) → o ≡ Some c
      own_conn None here = absurd (omega arith)
      own_conn (Some d) here = ap Some (sym (one_in c d here))

  pub tour_visit : (tours : List (Tour A L)) (c : ℕ) → EachToured {A = A} {L = L} g shown standing_of faults ends tours v → In c (conns_in tours) → (peer : Peer)
      × (x : Visit L) × Visited g peer shown x v × (x.session.conn ≡ Some c)
  tour_visit [] c each there = absurd (omega arith)
  tour_visit (t ∷ more) c each there = ⊎_elim
      (λ (here : In c (conns_of t.visits)). (let it = visit_of t.peer t.visits c each.0.each here in (t.peer, it.0, it.1, it.2)))
      (λ (later : In c (conns_in more)). tour_visit more c each.1 later)
      (in_either c (conns_of t.visits) (conns_in more) there)

module _ {A L : Type 0} (g : Givens) (shown : L → Shown) (standing_of : A → Option (Standing L)) (faults ends : A → ℕ) (own : Option (ℕ × Entry))
    (tours : List (Tour A L)) (s : Shift) (others : List Shift) (v : View Givens Entry)
    (holds : Holds {A = A} {L = L} g shown standing_of faults ends own tours (s ∷ others) v)
    (log : List Entry) (is_whole : IsWhole v log) (runs : IsLog g log) (first_one : In 0 (workers_in (s ∷ others))) where
  abbrev last : (r : Shift) × HasWorked g r v × AreShorter (length r.stood) (s ∷ others)
  last = longest g v s others holds.shifts_are

  abbrev stood : List Entry
  stood = last.0.stood

  abbrev more : List Entry
  more = reverse last.1.later.0

  grown : log ≡ stood ++ last.1.later.0
  grown = is_whole.seen ∙ last.1.later.1

  whole_is : reverse log ≡ more ++ reverse stood
  whole_is = reversed_more stood log last.1.later.0 grown

  runs_is : IsHistory g (more ++ reverse stood)
  runs_is = subst (IsHistory g) whole_is runs

  in_log : (x : ℕ) (e : Entry) → get_elem? (stood ++ last.1.later.0) x ≡ some e → get_elem? log x ≡ some e
  in_log x e at = subst (λ l. get_elem? l x ≡ some e) (sym grown) at

  seen_at : (x : ℕ) (e : Entry) → get_elem? log x ≡ some e → get_elem? v.seen x ≡ some e
  seen_at x e at = in_seen {A = A} {L = L} g shown standing_of faults ends own tours (s ∷ others) v holds log is_whole runs x e at

  here : (w x : ℕ) (e : Entry) → get_elem? log x ≡ some e → worker_of e ≡ Some w → In w (workers_in (s ∷ others))
  here w x e at works = ⊎_elim
      (λ (i : In w (workers_in (s ∷ others))). i)
      (λ (help : IsHelpAt v.seen x). subst (λ k. In k (workers_in (s ∷ others))) (sym (help_first v.seen x help e w (seen_at x e at) works)) first_one)
      (works_here {A = A} {L = L} g shown standing_of faults ends own tours (s ∷ others) v holds log is_whole runs w x e at works)

  made_at : (x : ℕ) (e : Entry) → get_elem? log x ≡ some e → In x v.mine
  made_at x e at = made {A = A} {L = L} g shown standing_of faults ends own tours (s ∷ others) v holds log is_whole runs x e at

  -- no worker made an entry behind the longest
  early : (w x : ℕ) (e : Entry) → get_elem? log x ≡ some e → worker_of e ≡ Some w → x < length stood
  early w x e at works =
      let k = shift_within g v (length stood) (s ∷ others) w holds.shifts_are last.2 (here w x e at works) in
      let low = k.2.quiet x (made_at x e at) (record { entry = e; stands = seen_at x e at; own = works ∙ ap Some (sym k.1) }) in
      let few = k.3 in omega arith

  none_behind : HasNoTurn more
  none_behind = no_turn_of more (all_behind (λ e. worker_of e ≡ None) stood last.1.later.0 (λ x e far at. by_worker x e far at (worker_of e) refl))
    where
      by_worker : (x : ℕ) (e : Entry) → length stood ≤ x → get_elem? (stood ++ last.1.later.0) x ≡ some e → (o : Option ℕ) → worker_of e ≡ o → o ≡ None
      by_worker x e far at None is = refl
      by_worker x e far at (Some w) is = absurd (let low = early w x e (in_log x e at) is in omega arith)

  -- what a prefix of the journal is
  history_of : (k : List Entry) → IsPrefix k v.seen → IsHistory g (reverse k)
  history_of k p = history_before g (reverse p.0) (reverse k) (subst (IsHistory g) (reversed_more k log p.0 (is_whole.seen ∙ p.1)) runs)

  none_of : (w : ℕ) → (times w (workers_in (s ∷ others)) ≡ 0) → stage (reverse stood) w ≡ Free
  none_of w none =
      ap (λ l. stage l w) (sym (append-nil (reverse stood)))
      ∙ stage_stays w (reverse stood) [] (all_behind (λ e. worker_of e ≡ Some w → ⊥) [] stood (λ x e far at works.
      (let there = here w x e (in_log x e (at_longer stood last.1.later.0 x e at)) works in omega arith)))

  some_of : (w : ℕ) → In w (workers_in (s ∷ others)) → stage (reverse stood) w ≡ Free
  some_of w there =
      let k = shift_within g v (length stood) (s ∷ others) w holds.shifts_are last.2 there in
      let p : IsPrefix k.0.stood stood = prefix_shorter k.0.stood stood v.seen k.2.later last.1.later k.3 in
      let free : stage (reverse k.0.stood) w ≡ Free =
      subst (λ x. stage (reverse k.0.stood) x ≡ Free) k.1 (freed g (reverse k.0.stood) (history_of k.0.stood k.2.later) k.0.worker k.2.closed.idle) in
      ap (λ l. stage l w) (reversed_more k.0.stood stood p.0 p.1)
      ∙ (stage_stays w (reverse p.0) (reverse k.0.stood) (all_behind (λ e. worker_of e ≡ Some w → ⊥) k.0.stood p.0 (λ x e far at works.
      (let at' : get_elem? stood x ≡ some e = subst (λ l. get_elem? l x ≡ some e) (sym p.1) at in
      let in_it = in_log x e (at_longer stood last.1.later.0 x e at') in
      let low = k.2.quiet x (made_at x e in_it) (record { entry = e; stands = seen_at x e in_it; own = works ∙ ap Some (sym k.1) }) in omega arith)))
      ∙ free)

  all_free : (w : ℕ) → stage (reverse stood) w ≡ Free
  all_free w =
      dite (ℕ_discrete (times w (workers_in (s ∷ others))) 0) (λ (none : times w (workers_in (s ∷ others)) ≡ 0). none_of w none)
      (λ (there : times w (workers_in (s ∷ others)) ≡ 0 → ⊥). some_of w (omega arith))

  ended : IsOver g more (reverse stood)
  ended = closed_over g more (reverse stood) last.0.worker runs_is last.1.closed all_free none_behind

  -- a connection that entered since then sent nothing
  silent : (c x size : ℕ) (call : Call) → 0 < c → connections (reverse stood) ≤ c → get_elem? log x ≡ some (Arrive c size call) → ⊥
  silent c x size call above late_ at =
      let there =
      came_by_door {A = A} {L = L} g shown standing_of faults ends own tours (s ∷ others) v holds log is_whole runs c x (Arrive c size call) at refl above in
      let it = tour_visit {A = A} {L = L} g shown standing_of faults ends v tours c holds.tours_are there in
      by_told it.0 it.1 it.2 it.3 (it.2.gone c it.3).quiet it.1.session.conn it.3 it.2.served.told
    where
      by_told : (peer : Peer) (y : Visit L) (visited : Visited g peer shown y v) → y.session.conn ≡ Some c
          → ((place : ℕ) → In place v.mine → Belongs owner_of v.seen place c → place < length visited.closing.seen)
          → (o : Option ℕ) → o ≡ Some c → MatchOption o (RefusedAs peer visited.opening visited.closing (shown y.before) (shown y.after) y.session.end)
          (λ d. ServedAs g peer visited.opening visited.closing (shown y.before) (shown y.after) d y.session.end) → ⊥
      by_told peer y visited conn quiet None is told = (let f : None ≡ Some c = is in cc)
      by_told peer y visited conn quiet (Some d) is told_d =
          (let same : d ≡ c = cc in
          let told : ServedAs g peer visited.opening visited.closing (shown y.before) (shown y.after) c y.session.end =
          subst (λ k. ServedAs g peer visited.opening visited.closing (shown y.before) (shown y.after) k y.session.end) same told_d in
          let in_v = seen_at x (Arrive c size call) at in
          let low = quiet x (made_at x (Arrive c size call) at) (Arrive c size call, in_v, refl) in
          let stands = stood_before visited.closing.seen v.seen x (Arrive c size call) visited.later low in_v in
          let far : length stood ≤ told.place = ⊎_elim
          (λ (before : told.place < length stood). absurd
          (let entered = at_prefix visited.closing.seen v.seen told.place (Entered c) visited.later told.entered in
          let old = stood_before stood v.seen told.place (Entered c) last.1.later before entered in
          let less =
          entered_low g.config g.run g.limit (reverse stood) told.place c (history_of stood last.1.later).legal
          (subst (λ l. get_elem? l told.place ≡ some (Entered c)) (sym (reverse-reverse stood)) old) in omega arith))
          (λ (after : length stood ≤ told.place). after)
          (cases_lt told.place (length stood)) in
          let below = at_below visited.closing.seen told.place (Entered c) told.entered in
          let p : IsPrefix stood visited.closing.seen = prefix_shorter stood visited.closing.seen v.seen last.1.later visited.later (omega arith) in
          let back = reverse-reverse visited.closing.seen in
          let is_late_ : is_late c visited.closing.seen ≡ true =
          late_behind stood last.1.closed.shut (reverse visited.closing.seen) c told.place (subst (IsPrefix stood) (sym back) p) far
          (subst (λ l. get_elem? l told.place ≡ some (Entered c)) (sym back) told.entered)
          (λ z at'. entered_once g visited.closing.seen z told.place c visited.served.runs
          (subst (λ l. get_elem? l z ≡ some (Entered c)) back at') told.entered) in
          none_arrived (reverse visited.closing.seen) c x size call (told.silent is_late_)
          (subst (λ l. get_elem? l x ≡ some (Arrive c size call)) (sym back) stands))

  answered : (k c : ℕ) → k < arrivals (reverse log) → conn_of (reverse log) k ≡ Some c → 0 < c → decided g.config g.run (reverse log) k ≡ true
  answered k c low of above = ⊎_elim
      (λ (early_ : k < arrivals (reverse stood)). subst (λ l. decided g.config g.run l k ≡ true) (sym whole_is) (ended.answered k early_))
      (λ (after : arrivals (reverse stood) ≤ k). absurd (⊎_elim
      (λ (first : c ≡ 0). (omega arith))
      (λ (since : connections (reverse stood) ≤ c).
      (let at = arrived_at (reverse log) k c of in
      silent c at.0 at.1 at.2 above since (subst (λ l. get_elem? l at.0 ≡ some (Arrive c at.1 at.2)) (reverse-reverse log) at.3)))
      (late g.config g.run g.limit (reverse stood) last.1.closed.left k c after more runs_is.legal (subst (λ l. k < arrivals l) whole_is low)
      (subst (λ l. conn_of l k ≡ Some c) whole_is of))))
      (cases_lt k (arrivals (reverse stood)))

  pub run_over : IsRunOver g log
  run_over = record {
    over = λ a there. ended.over a (subst (λ l. IsAmong a (standing g.config g.run l).activations) whole_is there);
    answered = answered;
  }
