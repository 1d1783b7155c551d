-- A request that is served runs, and ends.
use Rattle.std.proofs.Common.{◌≡◌, ℕ, true, false, List, ◌∷◌, Option, Some, None, option_map, refl, sym, ap, ap₂, subst, ◌∙◌}
use Rattle.std.specs.List.{list_any}
use Rattle.poa_base.specs.declared.Call.{Call}
use Rattle.poa_base.specs.declared.Config.{Config}
use Rattle.poa_base.specs.declared.Entry.{Entry}
use Rattle.poa_base.specs.declared.Entry.TheVariants.{Entered, Arrive, Filled, Left, Collect, Admit, Tried, Incarnated, Run, Done, TakeOut, Etherealized, Abandon}
use Rattle.poa_base.specs.declared.Outcome.{Outcome}
use Rattle.poa_base.specs.declared.Reply.TheVariants.{Outcome as Ended}
use Rattle.poa_base.specs.declared.Sid.{Sid}
use Rattle.history_standing.specs.Ends.{is_over}
use Rattle.history_standing.specs.Stages.{arrival_in, stage}
use Rattle.history_standing.specs.declared.stage.Stage.{Stage}
use Rattle.history_standing.specs.declared.stage.Stage.TheVariants.{Serving}
use Rattle.poa_history.specs.Entries.{stage_at}
use Rattle.poa_history.specs.Runs.{IsRun}
use Rattle.poa_history.specs.States.{Stored, acted, call_run, servant_run, state_of}
use Rattle.poa_history.specs.Waiting.{may_queue}
use Rattle.poa_history.proofs.TurnTells.{run_is}
use Rattle.history_laws.proofs.Opened.{given, alone, within}
use Rattle.core_arrivals.specs.Placed.{arrives}
use Rattle.core_arrivals.specs.Tallies.{TallyAgrees}
use Rattle.core_arrivals.specs.declared.tally.Tally.{Tally}
use Rattle.core_arrivals.proofs.Queueing.{changes_queue}
use Rattle.core_standing.specs.Kept.{StandingAgrees}
use Rattle.core_standing.specs.Seen.{seen}
use Rattle.core_standing.specs.declared.standing.Standing.{Standing}
use Rattle.core_standing.proofs.Overs.{kept_none}
use Rattle.core_standing.proofs.Settled.{nothing_changed}
use Rattle.core_state.specs.Holds.{ServantsAgree}
use Rattle.core_state.specs.Kept.{kept_in}
use Rattle.core_state.specs.State.{StateAgrees}
use Rattle.core_state.specs.Steps.{IsActed, outcome_in}
use Rattle.core_state.specs.declared.servants.Servants.{Servants}
use Rattle.core_state.specs.declared.state.State.{State}
use Rattle.core_state.proofs.RunHolds.{run_holds, run_tells}
use Rattle.core_state.proofs.RunsHave.{serving_has}
use Rattle.core_state.proofs.Stated.{kept_still, quiet_state}
use Rattle.held_queue.specs.Frees.{freed_by, nothing}
use Rattle.held_queue.specs.declared.freed.Freed.{Freed}
use Rattle.core_outboxes.specs.Comes.{Comes, call_at}
use Rattle.core_outboxes.specs.Decided.{Decides}
use Rattle.core_outboxes.proofs.DecidingReply.{may_decides, never_decides}
use Rattle.core_run.specs.declared.inside.Inside.{Inside}
use Rattle.core_run.specs.Agrees.{Agrees, history, opened_in}
use Rattle.core_run.specs.Kept.{IsKept}
use Rattle.core_run.specs.Noting.{IsHalfway}
use Rattle.core_run.specs.Service.{brings, decided_by, is_service}
use Rattle.core_run.proofs.Filed.{filed_as}
use Rattle.core_run.proofs.Keeping.{left_still}
use Rattle.core_run.proofs.Turned.{manned_before}

-- what is so of both entries
by_service : (P : Entry → Type 0) → ((w : ℕ) → P (Run w)) → ((w : ℕ) → P (Done w)) → (e : Entry) → is_service e ≡ true → P e
by_service P run done (Run w) is = run w
by_service P run done (Done w) is = done w
by_service P run done (Admit w r v) is = absurd (let e : false ≡ true = is in cc)
by_service P run done (Tried w a) is = absurd (let e : false ≡ true = is in cc)
by_service P run done (Incarnated w a) is = absurd (let e : false ≡ true = is in cc)
by_service P run done (TakeOut w n x) is = absurd (let e : false ≡ true = is in cc)
by_service P run done (Etherealized w x y) is = absurd (let e : false ≡ true = is in cc)
by_service P run done (Entered conn) is = absurd (let e : false ≡ true = is in cc)
by_service P run done (Arrive conn size call) is = absurd (let e : false ≡ true = is in cc)
by_service P run done (Filled conn size) is = absurd (let e : false ≡ true = is in cc)
by_service P run done (Left conn) is = absurd (let e : false ≡ true = is in cc)
by_service P run done (Collect conn a) is = absurd (let e : false ≡ true = is in cc)
by_service P run done (Abandon w) is = absurd (let e : false ≡ true = is in cc)

-- no call arrives with them, none comes to the queue or leaves it, and nothing is counted
pub service_arrives_none : (e : Entry) → is_service e ≡ true → arrives e ≡ false
service_arrives_none = by_service (λ e. arrives e ≡ false) (λ _. refl) (λ _. refl)

pub service_queues_none : (e : Entry) → is_service e ≡ true → may_queue e ≡ false
service_queues_none = by_service (λ e. may_queue e ≡ false) (λ _. refl) (λ _. refl)

pub service_leaves_queue : (e : Entry) → is_service e ≡ true → changes_queue e ≡ false
service_leaves_queue = by_service (λ e. changes_queue e ≡ false) (λ _. refl) (λ _. refl)

pub service_counts_none : (past : List Entry) (t : Tally) → TallyAgrees past t → (e : Entry) → is_service e ≡ true → TallyAgrees (e ∷ past) t
service_counts_none past t is =
    by_service (λ e. TallyAgrees (e ∷ past) t)
    (λ _. record {
      entered = is.entered;
      leavers = is.leavers;
      stayers = is.stayers;
      calls = is.calls;
      sizes = is.sizes;
      full = is.full;
      order = is.order;
      end = is.end;
      gave = is.gave;
    })
    (λ _. record {
      entered = is.entered;
      leavers = is.leavers;
      stayers = is.stayers;
      calls = is.calls;
      sizes = is.sizes;
      full = is.full;
      order = is.order;
      end = is.end;
      gave = is.gave;
    })

module _ (c : Config) (run limit : ℕ) (opened : Stored) (past : List Entry) (w : ℕ) (s : State) (state : StateAgrees c run opened past s) where
  module _ (follows : IsRun c run limit (Run w ∷ past)) where
    -- the servant that runs acts on the call of its request, and nothing else changes
    run_state : (servants : Servants) → IsActed (servant_run c run past (stage past w)) (call_run past (stage past w)) (kept_in s.servants) (kept_in servants)
        → StateAgrees c run opened (Run w ∷ past) (record s { servants = servants })
    run_state servants acts =
        record {
          stands = kept_still c run past (Run w) (seen s.standing) (nothing_changed c run past (Run w) refl) state.stands;
          none_over = state.none_over;
          set = record { managed = state.set.managed; states = state.set.states; presets = state.set.presets; endpoints = state.set.endpoints };
          held = run_holds c run limit opened past w (given c run limit (Run w ∷ past) follows) (alone c run limit (Run w ∷ past) follows)
              (within c run limit (Run w ∷ past) follows) follows.legal (kept_in s.servants) (kept_in servants) state.held acts;
        }

    -- the outcome is the reply
    run_decides : (begun : Stage) (outcome : Option Outcome) → begun ≡ stage past w
        → outcome ≡ outcome_in (servant_run c run past (stage past w)) (call_run past (stage past w)) (kept_in s.servants)
        → Decides c run opened past (Run w) (decided_by begun outcome)
    run_decides begun outcome at told =
        (let its = given c run limit (Run w ∷ past) follows in
        let apart = alone c run limit (Run w ∷ past) follows in
        let few = within c run limit (Run w ∷ past) follows in
        let serves = run_is c run past w follows.legal.0 in
        let call = call_run past (stage past w) in
        let has = serving_has c run limit past its apart few follows.legal.1 w serves.0 serves.1 in
        let same : servant_run c run past (stage past w) ≡ Some has.0 = ap (servant_run c run past) serves.1 ∙ has.1 in
        let o = (acted (state_of c run opened past has.0) call).1 in
        let is : outcome ≡ Some o =
        told
        ∙ (run_tells c run limit opened past w its apart few follows.legal (kept_in s.servants) state.held call
        ∙ ap (option_map (λ t. (acted (state_of c run opened past t) call).1)) same) in
        let comes : Comes c run opened past (Run w) (stage past w) (call_at past (Run w)) s.settings outcome =
        record { manned = manned_before c run limit past (Run w) follows; at_stage = refl; call_is = refl; told = state.set; ran = (has.0, same, is) } in
        subst (Decides c run opened past (Run w)) (sym (ap (λ b. decided_by b outcome) (at ∙ serves.1) ∙ ap (decided_by (Serving serves.0)) is))
        (may_decides c run opened past (stage past w) (call_at past (Run w)) s.settings outcome (Run w) serves.0 (Ended o) refl comes
        (ap arrival_in serves.1) (ap (option_map Ended) is)))

  module _ (follows : IsRun c run limit (Done w ∷ past)) where
    done_state : (t : Standing) → StandingAgrees c run (Done w ∷ past) (seen t) → list_any (is_over c) t.activations.kept ≡ false
        → StateAgrees c run opened (Done w ∷ past) (record s { standing = t })
    done_state t stands none =
        quiet_state c run limit opened past (Done w) s t s.settings follows refl state.held stands (kept_none c t none)
        (record { managed = state.set.managed; states = state.set.states; presets = state.set.presets; endpoints = state.set.endpoints })

    done_decides : Decides c run opened past (Done w) None
    done_decides =
        never_decides c run opened past (stage past w) (call_at past (Done w)) s.settings None (Done w) refl
        (record { manned = manned_before c run limit past (Done w) follows; at_stage = refl; call_is = refl; told = state.set; ran = tt })

-- each comes to be noted
module _ (w : ℕ) (i : Inside) (agrees : Agrees (history i) i) (begun : Stage) (at : begun ≡ stage (history i) w) where
  abbrev past : List Entry
  past = history i

  module _ (follows : IsRun i.config i.run i.limit (Run w ∷ past)) (runs : Option Sid) (call : Option Call) (runs_is : runs ≡ servant_run i.config i.run past begun)
      (call_is : call ≡ call_run past begun) where
    mine : runs ≡ servant_run i.config i.run past (stage past w)
    mine = runs_is ∙ ap (servant_run i.config i.run past) at

    spoken : call ≡ call_run past (stage past w)
    spoken = call_is ∙ ap (call_run past) at

    pub run_halfway : (servants : Servants) (outcome : Option Outcome) (freed : Freed) → IsActed runs call (kept_in i.state.servants) (kept_in servants)
        → outcome ≡ outcome_in runs call (kept_in i.state.servants) → freed ≡ nothing
        → IsHalfway past (Run w) begun (brings (decided_by begun outcome) freed) (record i { state = record i.state { servants = servants } })
    run_halfway servants outcome freed acts told frees =
        (let old = kept_in i.state.servants in record {
          follows = follows;
          begun_is = at;
          state = run_state i.config i.run i.limit (opened_in i) past w i.state agrees.state follows servants
              (subst (λ x. IsActed x (call_run past (stage past w)) old (kept_in servants)) mine
              (subst (λ x. IsActed runs x old (kept_in servants)) spoken acts));
          brought =
              record {
                decides = run_decides i.config i.run i.limit (opened_in i) past w i.state agrees.state follows begun outcome at
                    (told ∙ ap₂ (λ x y. outcome_in x y old) mine spoken);
                waits = tt;
                orders = refl;
                frees = frees;
              };
          tables = agrees.tables;
          owed = agrees.owed;
          left = filed_as i.desk (left_still (Run w) i refl) agrees.filed;
        })

  pub done_halfway : (follows : IsRun i.config i.run i.limit (Done w ∷ past)) (t : Standing) (freed : Freed)
      → StandingAgrees i.config i.run (Done w ∷ past) (seen t) → list_any (is_over i.config) t.activations.kept ≡ false
      → freed ≡ freed_by i.config i.run past (Done w)
      → IsHalfway past (Done w) begun (brings None freed) (record i { state = record i.state { standing = t } })
  done_halfway follows t freed stands none frees =
      record {
        follows = follows;
        begun_is = at;
        state = done_state i.config i.run i.limit (opened_in i) past w i.state agrees.state follows t stands none;
        brought =
            record {
              decides = done_decides i.config i.run i.limit (opened_in i) past w i.state agrees.state follows;
              waits = tt;
              orders = refl;
              frees = frees;
            };
        tables = agrees.tables;
        owed = agrees.owed;
        left = filed_as i.desk (left_still (Done w) i refl) agrees.filed;
      }

-- what is kept stays so where the servants are the same
pub servants_kept : (i : Inside) (servants : Servants) → kept_in servants ≡ kept_in i.state.servants → IsKept i
    → IsKept (record i { state = record i.state { servants = servants } })
servants_kept i servants same kept =
    (let a = kept.agrees in let s = a.state in record {
      agrees = record {
        runs = a.runs;
        state = record {
          stands = s.stands;
          none_over = s.none_over;
          set = s.set;
          held = subst (ServantsAgree i.config i.run (opened_in i) (history i)) (sym same) s.held;
        };
        tables = a.tables;
        owed = a.owed;
        filed = a.filed;
      };
      space = kept.space;
    })
