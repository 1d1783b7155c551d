-- What a run promises, from what was served and the last look.
use Rattle.std.proofs.Common.{◌≡◌, ℕ, ◌<◌, true, false, List, [], ◌∷◌, length, reverse, Option, Some, None, refl, sym, ap, ◌∙◌, subst, ⊎_elim, arith}
use Rattle.std.proofs.lemmas.List.{reverse-reverse}
use mathlib.Core.Option.{some}
use lib.ListN.{get_elem?}
use Rattle.outside.specs.Accepting.{Standing}
use Rattle.outside.specs.Link.{Shown}
use Rattle.poa_base.specs.declared.Call.{Call}
use Rattle.poa_base.specs.declared.Config.{Config}
use Rattle.poa_base.specs.declared.Entry.{Entry}
use Rattle.poa_base.specs.declared.Entry.TheVariants.{Entered, Arrive}
use Rattle.poa_history.specs.Life.{Life, givens_of}
use Rattle.poa_history.specs.Legal.{had_shutdown}
use Rattle.poa_history.specs.Lifetime.{HasLifetime}
use Rattle.poa_shared.specs.Events.{Event}
use Rattle.poa_shared.specs.Seen.{past, Turns}
use Rattle.poa_history.specs.Runs.{IsRun}
use Rattle.poa_shared.specs.Helping.{IsHelpAt}
use Rattle.poa_history.specs.declared.givens.Givens.{Givens}
use Rattle.poa_history.specs.Owners.{owner_of}
use Rattle.poa_history.specs.GivenRuns.{IsHistory, IsLog}
use Rattle.seat_lock.specs.declared.view.View.{View}
use Rattle.seat_lock.specs.Histories.{In, IsPrefix}
use Rattle.seat_lock.specs.Steps.{Knows}
use Rattle.seat_lock.proofs.Calls.{at_prefix}
use Rattle.seat_lock.proofs.Histories.{prefix_below}
use Rattle.seat_lock.proofs.Totals.{at_below}
use Rattle.serve_run.specs.Attending.{AllServed}
use Rattle.serve_run.specs.Holding.{AreBefore, Holds, IsLast, IsOwn, IsWord}
use Rattle.serve_run.specs.Running.{IsKeptRun, IsServedRun, IsWholeRun}
use Rattle.serve_run.specs.Served.{EachEnded, IsRunOver}
use Rattle.serve_run.specs.Tours.{Tour, Shift, workers_in, EachToured}
use Rattle.serve_run.specs.declared.doors.Doors.{Doors}
use Rattle.serve_run.specs.declared.outcome.Outcome.{Outcome}
use Rattle.serve_run.proofs.DoorEnds.{each_ended}
use Rattle.serve_run.proofs.Endings.{run_over}
use Rattle.serve_run.proofs.Helping.{help_first}
use Rattle.serve_run.proofs.Sessions.{came_by_door, connections_are, in_seen, made, none_abandoned, sessions_are, works_here, Stays}
use Rattle.serve_run.proofs.Staying.{holds_looked, last_same, place_of, same_seen}
use Rattle.serve_run.proofs.Whole.{whole, IsWhole}

module _ {A L : Type 0} (g : Givens) (shown : L → Shown) (standing : A → Option (Standing L)) (faults ends : A → ℕ) where
  all_before : (tours : List (Tour A L)) (v : View Givens Entry) → EachToured {A = A} {L = L} g shown standing faults ends tours v
      → AreBefore {A = A} {L = L} (length v.seen) tours
  all_before [] v each = tt
  all_before (t ∷ more) v each = (prefix_below t.stood v.seen each.0.later, all_before more v each.1)

  over_by : (own : Option (ℕ × Entry)) (tours : List (Tour A L)) (shifts : List Shift) (v : View Givens Entry) (log : List Entry)
      → Holds {A = A} {L = L} g shown standing faults ends own tours shifts v → IsWhole v log → IsLog g log → In 0 (workers_in shifts) → IsRunOver g log
  over_by own tours [] v log holds is_whole runs there = absurd (omega arith)
  over_by own tours (s ∷ others) v log holds is_whole runs there = run_over g shown standing faults ends own tours s others v holds log is_whole runs there

  module _ (own : Option (ℕ × Entry)) (tours : List (Tour A L)) (shifts : List Shift) (w : View Givens Entry)
      (holds : Holds {A = A} {L = L} g shown standing faults ends own tours shifts w) (log : List Entry) (is_whole : IsWhole w log) (runs : IsLog g log) where
    -- what stands of the first connection in what a door had seen at its end
    said_at : (t : Tour A L) → IsPrefix t.stood w.seen → (x size : ℕ) (call : Call) → get_elem? (reverse (reverse t.stood)) x ≡ some (Arrive 0 size call)
        → (x < length t.stood) × IsOwn own x (Arrive 0 size call)
    said_at t p x size call at =
        let there : get_elem? t.stood x ≡ some (Arrive 0 size call) = subst (λ l. get_elem? l x ≡ some (Arrive 0 size call)) (reverse-reverse t.stood) at in
        let seen = at_prefix t.stood w.seen x (Arrive 0 size call) p there in (
          at_below t.stood x (Arrive 0 size call) there,
          holds.own_is x (Arrive 0 size call) (is_whole.all x (at_below w.seen x (Arrive 0 size call) seen)) seen refl,
        )

    ends_by : (o : Option (ℕ × Entry)) → own ≡ o → IsLast {A = A} {L = L} own tours w → EachEnded {A = A} {L = L} standing faults ends log tours
    ends_by None is last =
        each_ended g shown standing faults ends w log is_whole.seen (none_abandoned g shown standing faults ends own tours shifts w holds log is_whole runs) tours
        (length w.seen) (all_before tours w holds.tours_are)
        (λ t far p x size call at. ⊎_elim
        (λ (first : Arrive 0 size call ≡ Entered 0). cc)
        (λ (same : own ≡ Some (x, Arrive 0 size call)). (let f : None ≡ Some (x, Arrive 0 size call) = sym is ∙ same in cc))
        (said_at t p x size call at).1) holds.tours_are
    ends_by (Some said) is last =
        each_ended g shown standing faults ends w log is_whole.seen (none_abandoned g shown standing faults ends own tours shifts w holds log is_whole runs) tours said.0
        (last.ended said.0 said.1 is)
        (λ t far p x size call at. ⊎_elim
        (λ (first : Arrive 0 size call ≡ Entered 0). cc)
        (λ (same : own ≡ Some (x, Arrive 0 size call)).
        (let f : Some said ≡ Some (x, Arrive 0 size call) = sym is
        ∙ same in let e = place_of said (x, Arrive 0 size call) f in let low = (said_at t p x size call at).0 in omega arith))
        (said_at t p x size call at).1) holds.tours_are

    pub kept_run : Stays g → (word : IsWord own) (workers : ℕ) → 0 < workers → ((w : ℕ) → In w (workers_in shifts) → w < workers)
        → IsKeptRun {A = A} {L = L} g shown workers tours own log
    kept_run stays word workers some_workers below = record {
      going = none_abandoned g shown standing faults ends own tours shifts w holds log is_whole runs;
      worked = λ place k e at works. ⊎_elim
          (λ (i : In k (workers_in shifts)). below k i)
          (λ (help : IsHelpAt w.seen place).
          (let zero_ = help_first w.seen place help e k (in_seen g shown standing faults ends own tours shifts w holds log is_whole runs place e at) works in
          omega arith))
          (works_here g shown standing faults ends own tours shifts w holds log is_whole runs k place e at works);
      first = record {
        word = word;
        own = λ place e at of. holds.own_is place e (made g shown standing faults ends own tours shifts w holds log is_whole runs place e at)
            (in_seen g shown standing faults ends own tours shifts w holds log is_whole runs place e at) of;
      };
      connections = connections_are g shown standing faults ends own tours shifts w holds log is_whole runs;
      sessions = sessions_are g shown standing faults ends own tours shifts w holds log is_whole runs stays tours holds.tours_are;
    }

    pub whole_run : IsLast {A = A} {L = L} own tours w → In 0 (workers_in shifts) → IsWholeRun {A = A} {L = L} g standing faults ends tours own log
    whole_run last there = record {
      last_word = λ place e is k c above b.
          last.left place e is k c (made g shown standing faults ends own tours shifts w holds log is_whole runs k b.0 b.1)
          (came_by_door g shown standing faults ends own tours shifts w holds log is_whole runs c k b.0 b.1 b.2 above)
          (b.0, in_seen g shown standing faults ends own tours shifts w holds log is_whole runs k b.0 b.1, b.2);
      behind = λ place size is. subst (λ l. had_shutdown (reverse l) ≡ true) (sym is_whole.seen) (last.behind place size is);
      over = over_by own tours shifts w log holds is_whole runs there;
      ended = ends_by own refl last;
    }

  -- a last look, and the core is taken out
  module _ (old new : Doors A) (outcome : Outcome) (first v w : View Givens Entry) (count : ℕ) (some_workers : 0 < count) (given : first.givens ≡ Some g)
      (room : first.room ≡ 1024) (base : first.base ≡ 0) (served : AllServed {A = A} {L = L} g shown standing faults ends count old new outcome first v)
      (looked : Event (λ x y. y ≡ x) v w) (life : Life) (given_life : w.givens ≡ Some (givens_of life)) (known : Knows owner_of w (reverse life.history))
      (stays : Stays g)
      (lifetimes : (c : Config) (run limit : ℕ) (h : List Entry) → IsRun c run limit h → HasLifetime c run h) where
    event : (h : List Entry) × Turns g v h w × (past w ≡ h)
    event = (let it = looked g (served.same.given ∙ given) in (it.0, it.1, ap (λ l. l.history) it.2))

    is_whole : IsWhole w (reverse life.history)
    is_whole = whole w (reverse life.history) known (event.1.room ∙ (served.same.room ∙ room)) (event.1.base ∙ (served.same.base ∙ base))

    legal : IsHistory g life.history
    legal = subst (IsHistory g) (ap reverse (sym is_whole.seen) ∙ reverse-reverse life.history) event.1.runs

    runs : IsLog g (reverse life.history)
    runs = subst (IsHistory g) (sym (reverse-reverse life.history)) legal

    holds_now : outcome.lost ≡ false → Holds {A = A} {L = L} g shown standing faults ends served.own served.tours served.shifts w
    holds_now kept = holds_looked g shown standing faults ends served.tours served.shifts v w event.0 event.1 served.own event.2 (served.holds kept)

    pub served_run : IsServedRun {A = A} {L = L} g shown standing faults ends count old new outcome life
    served_run = record {
      given = (let e : Some (givens_of life) ≡ Some g = sym given_life ∙ (event.1.given ∙ (served.same.given ∙ given)) in cc);
      legal = legal;
      lifetime = lifetimes g.config g.run g.limit life.history legal;
      tours = served.tours;
      attended = served.attended;
      failed_is = served.failed_is;
      refused_is = served.refused_is;
      passed = served.passed;
      last = served.own;
      kept = λ kept. kept_run served.own served.tours served.shifts w (holds_now kept)
          (reverse life.history) is_whole runs stays served.word count some_workers served.below;
      calm = λ calm kept. whole_run served.own served.tours served.shifts w (holds_now kept) (reverse life.history) is_whole runs
          (last_same g shown standing faults ends served.tours served.shifts served.own v w
          (same_seen g shown standing faults ends served.tours served.shifts v w event.0 event.1 event.2) (event.1.none_made event.2) (served.holds kept)
          (served.last calm kept))
          (served.worked calm kept 0 some_workers);
    }
