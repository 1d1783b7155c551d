-- How a worker's turns come to their end.
use Rattle.std.proofs.Common.{◌≡◌, ℕ, zero, suc, not, ◌+◌, ◌<◌, Bool, true, false, List, [], ◌∷◌, length, if◌then◌else◌, ◌&&◌, ◌||◌, ◌==◌, Some, None, Result, Ok, refl, sym, ap, ◌∙◌, subst, inl, inr, ⊎_elim, arith}
use Rattle.std.proofs.lemmas.Bool.{and_parts, eqb-true, eq-eqb, ne_eqb}
use Rattle.std.specs.declared.alloc.AllocError.{AllocError}
use mathlib.Core.Logic.{dite}
use native.Mathlib.Decide.{ℕ_discrete}
use Rattle.poa_base.specs.declared.Entry.{Entry}
use Rattle.poa_base.specs.declared.Entry.TheVariants.{Abandon}
use Rattle.poa_base.specs.declared.Point.{Point}
use Rattle.history_standing.specs.Arrivals.{arrivals, connections}
use Rattle.poa_history.specs.Legal.{has_left}
use Rattle.history_standing.specs.Searches.{count_below}
use Rattle.history_standing.specs.Stages.{is_abandoned, is_unadmitted, stage}
use Rattle.poa_history.specs.Turns.{turn}
use Rattle.poa_history.specs.Leaving.{is_shut, is_staying, are_gone, staying}
use Rattle.history_laws.specs.Closing.{IsClosed}
use Rattle.poa_history.specs.declared.givens.Givens.{Givens}
use Rattle.poa_core.specs.Answers.{Abandons, Steps, point_of, unadmitted, is_run_over}
use Rattle.poa_history.specs.Life.{with_entry, life_at}
use Rattle.poa_core.specs.declared.step_out.StepOut.TheVariants as step_out
use Rattle.poa_shared.specs.Seen.{past, Turns}
use Rattle.poa_shared.specs.Events.{Event}
use Rattle.poa_shared.specs.declared.work_end.WorkEnd.TheVariants as work_end
use Rattle.poa_shared.specs.Making.{Makes}
use Rattle.poa_shared.specs.Worked.{IsGivenUpAt, IsMadeAt, IsTurnAt, Worked}
use Rattle.poa_shared.specs.Pauses.{HasSeenAll, IsPaused, MakesTurns, Pauses}
use Rattle.poa_shared.specs.declared.pause.Pause.{Pause}
use Rattle.poa_shared.specs.declared.pause.Pause.TheVariants as pause
use Rattle.poa_shared.proofs.Making.{call_none, call_one, in_either, makes_through}
use Rattle.poa_shared.proofs.Seeing.{one_stands}
use Rattle.poa_shared.proofs.Steps.{turn_stays, turns_through}
use Rattle.seat_lock.specs.declared.view.View.{View}
use Rattle.seat_lock.specs.Histories.{In}
use Rattle.seat_lock.proofs.Totals.{at_below, in_added}

-- where so many numbers pass as none, none does
none_counted : (test : ℕ → Bool) (n k : ℕ) → count_below test n ≡ 0 → k < n → test k ≡ false
none_counted test zero k none less = absurd (omega arith)
none_counted test (suc n) k none less =
    elim (test n) as (λ b. test n ≡ b → count_below test n + (if b then 1 else 0) ≡ 0 → test k ≡ false) [
      | true ↦ λ _ some. absurd (omega arith)
      | false ↦ λ last rest. dite (ℕ_discrete k n)
          (λ (same : k ≡ n). ap test same ∙ last)
          (λ (other : k ≡ n → ⊥). none_counted test n k (omega arith) (omega arith))
    ] refl none

-- a connection that isn't staying, and isn't the first, has left
gone : (h : List Entry) (conn : ℕ) → 0 < conn → is_staying h conn ≡ false → has_left h conn ≡ true
gone h conn above none = by_left (has_left h conn) (sym (ap (λ b. not b && not (has_left h conn)) (ne_eqb conn 0 (λ q. omega arith))) ∙ none)
  where
    by_left : (b : Bool) → not b ≡ false → b ≡ true
    by_left true is = refl
    by_left false is = absurd (let e : true ≡ false = is in cc)

-- nothing is left where a step was idle and the run is over
closed_by : (worker : ℕ) (g : Givens) (h : List Entry) → is_abandoned h worker ≡ false → turn g.config g.run h worker ≡ None → is_run_over h ≡ true
    → IsClosed g worker h
closed_by worker g h going idle over =
    let first = and_parts (is_shut h) (are_gone h (connections h) && (unadmitted h == 0)) over in
    let rest = and_parts (are_gone h (connections h)) (unadmitted h == 0) first.1 in
    record {
      going = going;
      idle = idle;
      shut = first.0;
      left = λ conn above less. gone h conn above (none_counted (is_staying h) (connections h) conn (eqb-true (staying h (connections h)) 0 rest.0) less);
      admitted = λ r less. none_counted (is_unadmitted h) (arrivals h) r (eqb-true (unadmitted h) 0 rest.1) less;
    }

seen_all : (g : Givens) (v w : View Givens Entry) (h : List Entry) → Turns g v h w → HasSeenAll g w
seen_all g v w h t = record { runs = t.runs; knows = t.knows }

module _ (worker : ℕ) (g : Givens) (v w : View Givens Entry) (given : v.givens ≡ Some g) where
  -- what the answers of a step say where it makes no turn
  pub step_idle : (over : Bool) → Event (λ old new. Steps worker old (Ok (step_out.Idle over)) new) v w → HasSeenAll g w
      × (turn g.config g.run (past w) worker ≡ None) × (over ≡ true → IsClosed g worker (past w))
  step_idle over ev =
      let it = ev g given in
      let same : past w ≡ it.0 = ap (λ l. l.history) it.2.3 in (
        seen_all g v w it.0 it.1,
        subst (λ h. turn g.config g.run h worker ≡ None) (sym same) it.2.1,
        λ is. subst (IsClosed g worker) (sym same) (closed_by worker g it.0 it.2.0 it.2.1 (sym it.2.2 ∙ is)),
      )

  pub step_did : (point : Point) → Event (λ old new. Steps worker old (Ok (step_out.Did point)) new) v w → HasSeenAll g w
      × (point ≡ point_of (stage (past w) worker))
  step_did point ev = (let it = ev g given in (seen_all g v w it.0 it.1, it.2.1))

  pub step_stopped : Event (λ old new. Steps worker old (Ok step_out.Stopped) new) v w → HasSeenAll g w × (is_abandoned (past w) worker ≡ true)
  step_stopped ev =
      let it = ev g given in
      let same : past w ≡ it.0 = ap (λ l. l.history) it.2.1 in
      (seen_all g v w it.0 it.1, ap (λ h. is_abandoned h worker) same ∙ it.2.0)

module _ (worker : ℕ) (g : Givens) (u v : View Givens Entry) (so_far : MakesTurns worker u v) where
  ends_closed : HasSeenAll g v → IsClosed g worker (past v) → Worked g worker u v work_end.Closed
  ends_closed all closed = record { makes = so_far; runs = all.runs; knows = all.knows; cause = closed }

  ends_stopped : HasSeenAll g v → is_abandoned (past v) worker ≡ true → Worked g worker u v (work_end.Stopped worker)
  ends_stopped all stopped = record { makes = so_far; runs = all.runs; knows = all.knows; cause = (refl, stopped) }

  module _ (w : View Givens Entry) (h : List Entry) (t : Turns g v h w) where
    abbrev IsTurn : List Entry → List ℕ → ℕ → Type 0
    IsTurn log made place = IsTurnAt worker log place

    abbrev IsMade : List Entry → List ℕ → ℕ → Type 0
    IsMade = IsMadeAt work_end.WantMemory worker

    -- another gave the run up in this worker's name
    given_up_before : past w ≡ h → is_abandoned h worker ≡ true → Worked g worker u w work_end.WantMemory
    given_up_before is stands =
        let none : MakesTurns worker v w = call_none IsTurn g v w h t is in
        record {
          makes = makes_through IsTurn IsTurn IsMade u v w so_far none
              (λ place turn. inl (turn_stays worker v.seen w.seen place none.grows turn)) (λ place low turn. inl turn);
          runs = t.runs;
          knows = t.knows;
          cause = ap (λ l. is_abandoned l worker) is ∙ stands;
        }

    -- the worker gives the run up itself, last
    gives_up_last : past w ≡ Abandon worker ∷ h → Makes (IsGivenUpAt worker) v w
    gives_up_last is = call_one (IsGivenUpAt worker) g v w h t (Abandon worker) is
        (record {
          stands = one_stands g v w h t (Abandon worker) is;
          last = λ other there. ⊎_elim
              (λ (i : In other []). absurd (omega arith))
              (λ (at : other ≡ length h). omega arith)
              (in_added other (length h) [] there);
        })

    given_up_now : past w ≡ Abandon worker ∷ h → Worked g worker u w work_end.WantMemory
    given_up_now is =
        let last = gives_up_last is in
        record {
          makes = makes_through IsTurn (IsGivenUpAt worker) IsMade u v w so_far last
              (λ place turn. inl (turn_stays worker v.seen w.seen place last.grows turn))
              (λ place low it. inr (record {
                stands = it.stands;
                last = λ other there. ⊎_elim
                    (λ (i : In other so_far.made).
                    (let turn = (so_far.each other i).1 in let below = at_below v.seen other turn.entry turn.stands in omega arith))
                    (λ (i : In other last.made). it.last other i)
                    (in_either other so_far.made last.made there);
              }));
          runs = t.runs;
          knows = t.knows;
          cause = ap (λ l. is_abandoned l worker) is ∙ ap (λ b. b || is_abandoned h worker) (eq-eqb worker worker refl);
        }

    gives_up : (b : Bool) → is_abandoned h worker ≡ b → life_at g (past w) ≡ (if b then life_at g h else with_entry (Abandon worker) (life_at g h))
        → Worked g worker u w work_end.WantMemory
    gives_up true stands is = given_up_before (ap (λ l. l.history) is) stands
    gives_up false none is = given_up_now (ap (λ l. l.history) is)

  pub ends_given_up : (w : View Givens Entry) → v.givens ≡ Some g → Event (λ old new. Abandons worker old new) v w → Worked g worker u w work_end.WantMemory
  ends_given_up w given ev = (let it = ev g given in gives_up w it.0 it.1 (is_abandoned it.0 worker) refl it.2)

-- after the turns so far a seat that was left as it was made turns again, and paused
module _ (worker : ℕ) (u v v' w : View Givens Entry) (so_far : (g : Givens) → u.givens ≡ Some g → MakesTurns worker u v) (same : v' ≡ v)
    (r : Result Pause AllocError) (turned : (g : Givens) → v'.givens ≡ Some g → Pauses g worker v' r w) where
  paused : (g : Givens) → u.givens ≡ Some g → MakesTurns worker u w × IsPaused g worker r w
  paused g given =
      let old = so_far g given in
      let new = turned g (ap (λ x. x.givens) same ∙ (old.given ∙ given)) in
      (turns_through worker u v w old (subst (λ x. MakesTurns worker x w) same new.0), new.1)

  pub goes_further : (g : Givens) → u.givens ≡ Some g → MakesTurns worker u w
  goes_further g given = (paused g given).0

  pub closes : r ≡ Ok (pause.Idle true) → (g : Givens) → u.givens ≡ Some g → Worked g worker u w work_end.Closed
  closes is g given =
      let it = paused g given in
      let idle = subst (λ x. IsPaused g worker x w) is it.1 in
      ends_closed worker g u w it.0 idle.0 (idle.2 refl)

  pub stops : r ≡ Ok pause.Stopped → (g : Givens) → u.givens ≡ Some g → Worked g worker u w (work_end.Stopped worker)
  stops is g given =
      let it = paused g given in
      let stopped = subst (λ x. IsPaused g worker x w) is it.1 in
      ends_stopped worker g u w it.0 stopped.0 stopped.1

  pub gives_it_up : (x y : View Givens Entry) → Event (λ old new. Abandons worker old new) w x → y ≡ x → (g : Givens) → u.givens ≡ Some g
      → Worked g worker u y work_end.WantMemory
  gives_it_up x y ev is g given =
      let old = goes_further g given in
      subst (λ z. Worked g worker u z work_end.WantMemory) (sym is) (ends_given_up worker g u w old x (old.given ∙ given) ev)
