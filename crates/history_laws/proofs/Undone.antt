-- Nothing stays undone.
use Rattle.history_laws.proofs.Begun.{begun_worked, removal_worked}
use Rattle.history_laws.proofs.CommandsGo.{commands_go}
use Rattle.history_laws.proofs.HeldRows.{IsFreed, held_rows, is_busy_slot, is_held}
use Rattle.history_laws.proofs.Idle.{all_landed, dying_gone, ending_finished, living_active, mapped_none, none_admitted, none_changing}
use Rattle.history_laws.proofs.Workers.{below_sixteen}
use Rattle.history_laws.specs.Undone.{AreIdle, IsAllDone, IsAtFlight, IsHeldBack, IsInHand}
use Rattle.poa_base.specs.declared.Call.{Call}
use Rattle.poa_base.specs.declared.Call.TheVariants.{Line, Locate, Request}
use Rattle.poa_base.specs.declared.Config.{Config}
use Rattle.poa_base.specs.declared.Entry.{Entry}
use Rattle.poa_base.specs.declared.Entry.TheVariants.{Abandon, Admit, Arrive, Collect, Done, Entered, Etherealized, Filled, Incarnated, Left, Run, TakeOut, Tried}
use Rattle.poa_choose.specs.Table.{first_row}
use Rattle.poa_choose.specs.declared.Choice.{Choice}
use Rattle.poa_choose.specs.declared.Choice.TheVariants.{Go, Held}
use Rattle.poa_choose.specs.declared.MapFact.TheVariants.{Active as ActiveAs, Busy, Free as FreeSlot}
use Rattle.poa_history.proofs.MannedKept.{all_manned}
use Rattle.poa_history.specs.Alone.{IsGivenAlone}
use Rattle.history_standing.specs.Arrivals.{arrivals, call_of, is_message}
use Rattle.poa_history.specs.Bounds.{IsWithinLimits}
use Rattle.history_standing.specs.Changes.{standing}
use Rattle.history_standing.specs.Ends.{is_over}
use Rattle.poa_history.specs.InFlight.{Holds, IsFlying, IsManned, IsRunning, named}
use Rattle.history_standing.specs.Keys.{key_in}
use Rattle.poa_history.specs.Legal.{IsLegal}
use Rattle.history_standing.specs.Situations.{facts_of, key_or_none, slot_of}
use Rattle.poa_history.specs.Sound.{IsGiven}
use Rattle.history_standing.specs.Stages.{arrival_in, is_unadmitted, stage}
use Rattle.history_standing.specs.Standings.{Standing, is_active, is_of, is_running, is_tried}
use Rattle.poa_history.specs.Verdicts.{chosen, verdict, verdict_on}
use Rattle.history_standing.specs.declared.flight.Flight.{Flight}
use Rattle.history_standing.specs.declared.stage.Stage.{Stage}
use Rattle.history_standing.specs.declared.stage.Stage.TheVariants.{Free, Incarnating, Ran, Removing, Serving, Trying}
use Rattle.history_standing.proofs.Finding.{find_in, find_none}
use Rattle.history_standing.specs.Trees.{In}
use Rattle.history_standing.specs.Walks.{adapter_met, child_met, walk}
use Rattle.std.proofs.Common.{◌∙◌, ap, ap₂, arith, inl, inr, subst, sym}
use Rattle.std.proofs.lemmas.Bool.{and_parts, cases_Bool, eq-eqb, ltb-false, ltb-true, true≢false}
use Rattle.std.specs.Prelude.{◌&&◌, ◌<◌, ◌==◌, ◌∷◌, ◌≡◌, Bool, List, None, Option, Some, [], false, find, if◌then◌else◌, is_some, nat_lt, not, option_map, refl, true, ℕ}
use Rattle.history_standing.proofs.Tests.{not_true}

-- each arrival has a call
arrived_call : (h : List Entry) (r : ℕ) → r < arrivals h → (call : Call) × (call_of h r ≡ Some call)
arrived_call [] r less = absurd (omega (arith, less))
arrived_call (Arrive conn size call ∷ past) r less =
    elim (r == arrivals past) as (λ b. (r == arrivals past) ≡ b → (d : Call) × ((if b then Some call else call_of past r) ≡ Some d)) [
      | true ↦ λ _. (call, refl)
      | false ↦ λ differ. arrived_call past r (elim (cases_Bool (nat_lt r (arrivals past))) [
        | inl low ↦ ltb-true r (arrivals past) low
        | inr high ↦
            absurd (let above = ltb-false r (arrivals past) high in let same : r ≡ arrivals past = omega (arith, above, less) in
            true≢false (sym (eq-eqb r (arrivals past) same) ∙ differ))
      ])
    ] refl
arrived_call (Entered conn ∷ past) r less = arrived_call past r less
arrived_call (Filled conn size ∷ past) r less = arrived_call past r less
arrived_call (Left conn ∷ past) r less = arrived_call past r less
arrived_call (Collect conn a ∷ past) r less = arrived_call past r less
arrived_call (Admit w a v ∷ past) r less = arrived_call past r less
arrived_call (Tried w a ∷ past) r less = arrived_call past r less
arrived_call (Incarnated w a ∷ past) r less = arrived_call past r less
arrived_call (Run w ∷ past) r less = arrived_call past r less
arrived_call (Done w ∷ past) r less = arrived_call past r less
arrived_call (TakeOut w n x ∷ past) r less = arrived_call past r less
arrived_call (Etherealized w x y ∷ past) r less = arrived_call past r less
arrived_call (Abandon w ∷ past) r less = arrived_call past r less

module _ (c : Config) (run limit : ℕ) (given : IsGiven c run) (alone : IsGivenAlone c run) (within : IsWithinLimits c limit) (h : List Entry)
    (legal : IsLegal c run limit h) where
  abbrev s : Standing
  s = standing c run h

  manned_ : IsManned c run h
  manned_ = all_manned c run limit h given alone within legal

  at_flight : (f : Flight) → In f s.flights → (w : ℕ) → arrival_in (stage h w) ≡ Some f.arrival → IsAtFlight f (stage h w)
  at_flight f there w at = by_stage (stage h w) refl
    where
      -- what a worker has in hand is what is in flight
      flight_is : (r : ℕ) (activation : Option ℕ) (trial : Bool) → r ≡ f.arrival → IsFlying s r activation trial
          → (f.activation ≡ activation) × (is_some f.child ≡ trial)
      flight_is r activation trial same (g, g_in, g_at, g_of, g_tried) =
          (let alone_ = manned_.flight_alone f g there g_in (sym same ∙ sym g_at) in
          (ap (λ x. x.activation) alone_ ∙ g_of, ap (λ x. is_some x.child) alone_ ∙ g_tried))

      none_is : (o : Option (List (List ℕ))) → is_some o ≡ false → o ≡ None
      none_is None is = refl
      none_is (Some p) is = absurd (let e : true ≡ false = is in cc)

      -- no trial where a request runs
      childless : (r : ℕ) → r ≡ f.arrival → IsRunning h s r → f.child ≡ None
      childless r same running = none_is f.child (flight_is r (named (Some running.verdict)) false same running.flying).1

      arrival_is : (b : Stage) (r : ℕ) → stage h w ≡ b → arrival_in b ≡ Some r → r ≡ f.arrival
      arrival_is b r was has = (let e : Some r ≡ Some f.arrival = sym has ∙ (sym (ap arrival_in was) ∙ at) in cc)

      by_stage : (b : Stage) → stage h w ≡ b → IsAtFlight f (stage h w)
      by_stage Free was = absurd (let e : None ≡ Some f.arrival = sym (ap arrival_in was) ∙ at in cc)
      by_stage (Trying r) was =
          (let holds : Holds h s (Trying r) = subst (Holds h s) was (manned_.stages w) in
          let same = arrival_is (Trying r) r was refl in subst (IsAtFlight f) (sym was) (same, (flight_is r None true same holds.1).1))
      by_stage (Incarnating r n) was =
          (let holds : Holds h s (Incarnating r n) = subst (Holds h s) was (manned_.stages w) in
          let same = arrival_is (Incarnating r n) r was refl in
          let flight = flight_is r (Some n) false same holds.1 in subst (IsAtFlight f) (sym was) (same, flight.0, none_is f.child flight.1))
      by_stage (Serving r) was =
          (let holds : IsRunning h s r = subst (Holds h s) was (manned_.stages w) in
          let same = arrival_is (Serving r) r was refl in subst (IsAtFlight f) (sym was) (same, childless r same holds))
      by_stage (Ran r) was =
          (let holds : IsRunning h s r = subst (Holds h s) was (manned_.stages w) in
          let same = arrival_is (Ran r) r was refl in subst (IsAtFlight f) (sym was) (same, childless r same holds))
      by_stage (Removing n) was = absurd (let e : None ≡ Some f.arrival = sym (ap arrival_in was) ∙ at in cc)

  at_arrival : (f : Flight) (b : Stage) → IsAtFlight f b → arrival_in b ≡ Some f.arrival
  at_arrival f Free at = absurd at
  at_arrival f (Trying r) at = ap (λ x. Some x) at.0
  at_arrival f (Incarnating r n) at = ap (λ x. Some x) at.0
  at_arrival f (Serving r) at = ap (λ x. Some x) at.0
  at_arrival f (Ran r) at = ap (λ x. Some x) at.0
  at_arrival f (Removing n) at = absurd at

  busy_by : (w : ℕ) (b : Stage) → stage h w ≡ b → (b ≡ Free → ⊥) → w < 16
  busy_by w b at busy = below_sixteen c run limit h legal w (λ free. busy (sym at ∙ free))

  pub in_hand : IsInHand c run h
  in_hand = record {
    flying = λ f there. (let m = manned_.manned f there in record {
      worker = m.0;
      below = below_sixteen c run limit h legal m.0 (λ free. (let e : None ≡ Some f.arrival = sym (ap arrival_in free) ∙ m.1 in cc));
      begun = at_flight f there m.0 m.1;
      alone = λ w at. manned_.arrival_alone w m.0 f.arrival (at_arrival f (stage h w) at) m.1;
    });
    incarnating = λ a there phase. (let worked = begun_worked c run limit given alone within h legal a there phase in record {
      worker = worked.0;
      below = busy_by worked.0 (Incarnating worked.1 a.number) worked.2 (λ f. cc);
      begun = (worked.1, worked.2);
      alone = λ w at. manned_.begun_alone w worked.0 at.0 worked.1 a.number at.1 worked.2;
    });
    removing =
        λ a there activator out loud untold. (let worked = removal_worked c run limit given alone within h legal a there activator out loud untold in record {
          worker = worked.0;
          below = busy_by worked.0 (Removing a.number) worked.1 (λ f. cc);
          begun = worked.1;
          alone = λ w at. manned_.removal_alone w worked.0 a.number at worked.1;
        });
  }

  module _ (idle : AreIdle c run h) where
    slot_free : (k : ℕ) (oid : List ℕ) → is_busy_slot (slot_of c s.activations k oid) ≡ false
    slot_free k oid =
        elim (find (λ a. is_of k oid a && is_active a) s.activations) as (λ o. find (λ a. is_of k oid a && is_active a) s.activations ≡ o
        → is_busy_slot
        (elim o [
          | Some a ↦ ActiveAs a.number
          | None ↦
              elim (find (λ a. is_of k oid a && not (is_over c a)) s.activations) [ Some a ↦ Busy a.number | None ↦ FreeSlot ]
        ]) ≡ false) [
          | Some a ↦ λ _. refl
          | None ↦ λ none. elim (find (λ a. is_of k oid a && not (is_over c a)) s.activations) as (λ o. find (λ a. is_of k oid a && not (is_over c a))
              s.activations ≡ o → is_busy_slot (elim o [
                | Some a ↦ Busy a.number
                | None ↦ FreeSlot
              ]) ≡ false) [
                | None ↦ λ _. refl
                | Some a ↦ λ found. (let there = find_in (λ x. is_of k oid x && not (is_over c x)) a s.activations found in
                    let parts = and_parts (is_of k oid a) (not (is_over c a)) there.1 in
                    absurd (find_none (λ x. is_of k oid x && is_active x) a s.activations none there.0
                    (ap₂ (λ x y. x && y) parts.0 (living_active c run limit given alone within h legal idle a there.0 (not_true (is_over c a) parts.1)))))
              ] refl
        ] refl

    freed : (r : ℕ) → IsFreed (facts_of c run h r)
    freed r = (let key = key_or_none (key_in (call_of h r)) in record {
      untried = ap (λ fs. is_tried fs (child_met (walk s.nodes key.path) key.path)) (all_landed c run limit given alone within h legal idle);
      still = ap (λ fs. is_running fs (adapter_met (walk s.nodes key.path))) (all_landed c run limit given alone within h legal idle);
      settled_slot = slot_free (adapter_met (walk s.nodes key.path)) key.oid;
      idle = none_changing c run limit given alone within h legal idle (adapter_met (walk s.nodes key.path));
    })

    -- the verdict on an unadmitted arrival is none
    no_verdict : (r : ℕ) → r < arrivals h → is_unadmitted h r ≡ true → verdict_on c run h r 0 (call_of h r) ≡ None
    unfolding verdict
    no_verdict r less unadmitted =
        mapped_none (λ v. Admit 0 r v) (verdict c run h r 0)
        (ap (λ b. if b then option_map (λ v. Admit 0 r v) (verdict c run h r 0) else None) (sym unadmitted)
        ∙ none_admitted c run limit given alone within h legal idle r less)

    message_held : (r : ℕ) → is_message (call_of h r) ≡ true → chosen (first_row (facts_of c run h r) 0) ≡ None → IsHeldBack c run h r
    message_held r message none =
        let rows = held_rows (facts_of c run h r) (freed r) (held_by (first_row (facts_of c run h r) 0) none) in
        record { message = message; manager = (facts_of c run h r).manager; holding = rows.0; held = rows.1 }
      where
        held_by : (choice : Choice) → chosen choice ≡ None → is_held choice ≡ true
        held_by (Held cause) is = refl
        held_by (Go v) is = absurd (let e : Some v ≡ None = is in cc)

    pub held_back : (r : ℕ) → r < arrivals h → is_unadmitted h r ≡ true → IsHeldBack c run h r
    held_back r less unadmitted = by_call (arrived_call h r less).0 (arrived_call h r less).1
      where
        none_on : (call : Call) → call_of h r ≡ Some call → verdict_on c run h r 0 (Some call) ≡ None
        none_on call at = ap (verdict_on c run h r 0) (sym at) ∙ no_verdict r less unadmitted

        by_call : (call : Call) → call_of h r ≡ Some call → IsHeldBack c run h r
        by_call (Request head target operation body) at = message_held r (ap is_message at) (none_on (Request head target operation body) at)
        by_call (Locate head target) at = message_held r (ap is_message at) (none_on (Locate head target) at)
        by_call (Line number command) at =
            absurd (true≢false (sym (commands_go c run limit given alone within h legal idle command) ∙ ap is_some (none_on (Line number command) at)))

    pub all_done : IsAllDone c run h
    all_done = record {
      landed = all_landed c run limit given alone within h legal idle;
      finished = ending_finished c run limit given alone within h legal idle;
      gone = dying_gone c run limit given alone within h legal idle;
      held = held_back;
    }
