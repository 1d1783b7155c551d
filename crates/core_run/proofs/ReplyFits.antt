-- The reply of an arrival fits its call.
use Rattle.std.specs.Prelude.{◌≡◌, ℕ, ◌<◌, ◌≤◌, Bool, true, false, not, ◌&&◌, ◌||◌, ◌==◌, if◌then◌else◌, List, [], ◌∷◌, Option, Some, None, refl}
use Rattle.std.proofs.Common.{inl, inr, sym, subst, ap, ap₂, ◌∙◌, arith}
use Rattle.std.proofs.lemmas.Bool.{cases_Bool, cond_both, true≢false, eqb-true}
use Rattle.poa_base.specs.declared.Config.{Config}
use Rattle.poa_base.specs.declared.Call.{Call}
use Rattle.poa_base.specs.declared.Call.TheVariants.{Request, Locate, Line}
use Rattle.poa_base.specs.declared.Endpoint.{Endpoint}
use Rattle.poa_base.specs.declared.SysExc.{SysExc}
use Rattle.poa_base.specs.declared.Outcome.{Outcome}
use Rattle.poa_base.specs.declared.Sid.{Sid}
use Rattle.poa_base.specs.declared.Reply.{Reply}
use Rattle.poa_base.specs.declared.Reply.TheVariants as replied
use Rattle.poa_base.specs.declared.Answer.TheVariants.{Good}
use Rattle.poa_base.specs.declared.Entry.{Entry}
use Rattle.poa_base.specs.declared.Entry.TheVariants.{Arrive, Admit, Tried, Incarnated, Run}
use Rattle.poa_base.specs.declared.Attempt.{Attempt}
use Rattle.poa_base.specs.declared.Attempt.TheVariants.{Yes, Raised, Dying}
use Rattle.poa_base.specs.declared.Incarnation.{Incarnation}
use Rattle.poa_base.specs.declared.Incarnation.TheVariants.{Double, Forward as ForwardTo, Raise}
use Rattle.poa_base.specs.declared.Verdict.{Verdict}
use Rattle.poa_base.specs.declared.Verdict.TheVariants.{Serve, Preset, Locator, Incarnate, Try, Refuse, Forward, Addressing, Here, Unknown, Answer, Wait}
use Rattle.poa_choose.specs.Laws.{runs}
use Rattle.poa_choose.specs.declared.facts.Choice.TheVariants.{Go}
use Rattle.poa_choose.specs.Table.{first_row}
use Rattle.history_standing.specs.declared.stage.Stage.{Stage}
use Rattle.history_standing.specs.declared.stage.Stage.TheVariants.{Trying, Incarnating, Serving}
use Rattle.history_standing.specs.Arrivals.{arrivals, call_of, is_message, is_locate}
use Rattle.history_standing.specs.Changes.{standing}
use Rattle.poa_history.specs.InFlight.{Holds}
use Rattle.history_standing.specs.Keys.{key_in}
use Rattle.poa_history.specs.Legal.{IsLegal}
use Rattle.history_standing.specs.Logs.{forward_of}
use Rattle.poa_history.specs.Replies.{is_final, is_waiting, is_decided_by, decided, raised_to, forwarded_to, number_of, reply_admitted, reply_tried, reply_incarnated, reply_run, reply_by, reply_of, not_exist_omg, activator_raised, adapter_dying, servant_double}
use Rattle.history_standing.specs.Situations.{facts_of, key_or_none}
use Rattle.history_standing.specs.Stages.{stage, arrival_in, is_at, admitted, brings}
use Rattle.poa_history.specs.States.{Stored, acted, call_run, servant_run, state_of}
use Rattle.poa_history.specs.Settling.{settles}
use Rattle.poa_history.specs.Verdicts.{verdict_on}
use Rattle.poa_history.proofs.StepMoves.{chosen_go}
use Rattle.poa_history.proofs.TurnTells.{IsAdmission, admission_is, trial_is, incarnation_is, run_is}
use Rattle.poa_history.specs.Runs.{IsRun}
use Rattle.poa_history.specs.Fits.{FitsCall}
use Rattle.core_run.proofs.CommandFits.{for_line, command_fits}
use Rattle.core_run.proofs.TableFits.{for_request, for_locate, is_for, row_fits}
use Rattle.core_run.proofs.Turned.{manned_before}
use Rattle.history_standing.proofs.CallsKept.{arrivals_kept, call_kept}

-- a verdict that a call may get
abbrev may_get : Option Call → Verdict → Bool
may_get (Some (Request head target operation body)) v = for_request v
may_get (Some (Locate head target)) v = for_locate v
may_get (Some (Line number command)) v = for_line v
may_get None v = false

never : {A : Type 0} → false ≡ true → A
never no_way = absurd (let e : false ≡ true = no_way in cc)

-- what is so of the call of an arrival stays so
abbrev Of : (Option Call → Type 0) → List Entry → ℕ → Type 0
Of P h r = (r < arrivals h) × P (call_of h r)

later : (P : Option Call → Type 0) (e : Entry) (past : List Entry) (r : ℕ) → Of P past r → Of P (e ∷ past) r
later P e past r it = (
  let more : arrivals past ≤ arrivals (e ∷ past) = arrivals_kept e past in let less : r < arrivals past = it.0 in omega (arith, more, less),
  subst P (sym (call_kept e past r it.0)) it.1,
)

module _ (c : Config) (run : ℕ) (past : List Entry) (w r : ℕ) (v : Verdict) where
  by_call : (call : Option Call) → call_of past r ≡ call → verdict_on c run past r w call ≡ Some v → may_get call v ≡ true
  by_call None at told = absurd (let e : None ≡ Some v = told in cc)
  by_call (Some (Line number command)) at told = command_fits c run past (standing c run past) command v told
  by_call (Some (Request head target operation body)) at told =
      sym (ap₂ is_for (ap is_locate at) (chosen_go (first_row (facts_of c run past r) w) v told)) ∙ row_fits (facts_of c run past r) w
  by_call (Some (Locate head target)) at told =
      sym (ap₂ is_for (ap is_locate at) (chosen_go (first_row (facts_of c run past r) w) v told)) ∙ row_fits (facts_of c run past r) w

  admission_fits : IsAdmission c run past w r v → Of (λ call. may_get call v ≡ true) past r
  admission_fits is = (is.arrived, by_call (call_of past r) refl is.told)

-- each arrival stands admitted by a verdict that its call may get
admitted_fits : (c : Config) (run limit : ℕ) (h : List Entry) → IsLegal c run limit h → (r : ℕ) (v : Verdict) → admitted h r ≡ Some v
    → Of (λ call. may_get call v ≡ true) h r
admitted_fits c run limit [] legal r v is = absurd (let e : None ≡ Some v = is in cc)
admitted_fits c run limit (Admit w a u ∷ past) legal r v is =
    cond_both (a == r) (Some u) (admitted past r) (λ o. o ≡ Some v → Of (λ call. may_get call v ≡ true) (Admit w a u ∷ past) r)
    (λ same given. (let e : Some u ≡ Some v = given in let uv : u ≡ v = cc in
    subst (λ x. Of (λ call. may_get call x ≡ true) (Admit w a u ∷ past) r) uv
    (subst (λ q. Of (λ call. may_get call u ≡ true) (Admit w a u ∷ past) q) (eqb-true a r same)
    (admission_fits c run past w a u (admission_is c run past w a u legal.0)))))
    (λ _ before. admitted_fits c run limit past legal.1 r v before)
    is
admitted_fits c run limit (Tried w (Yes n) ∷ past) legal r v is =
    cond_both (is_at r (arrival_in (stage past w))) None (admitted past r) (λ o. o ≡ Some v → Of (λ call. may_get call v ≡ true) (Tried w (Yes n) ∷ past) r)
    (λ _ none. absurd (let e : None ≡ Some v = none in cc)) (λ _ before. admitted_fits c run limit past legal.1 r v before) is
admitted_fits c run limit (Arrive conn size call ∷ past) legal r v is =
    later (λ q. may_get q v ≡ true) (Arrive conn size call) past r (admitted_fits c run limit past legal.1 r v is)
admitted_fits c run limit (e ∷ past) legal r v is = admitted_fits c run limit past legal.1 r v is

-- verdicts on requests and locates alone
for_message : (call : Option Call) (v : Verdict) → may_get call v ≡ true → for_line v ≡ false → is_message call ≡ true
for_message None v may other = never may
for_message (Some (Request head target operation body)) v may other = refl
for_message (Some (Locate head target)) v may other = refl
for_message (Some (Line number command)) v may other = absurd (true≢false (sym may ∙ other))

-- a verdict on commands alone
for_command : (call : Option Call) (v : Verdict) → may_get call v ≡ true → for_request v ≡ false → for_locate v ≡ false
    → (number : ℕ) (answer : Rattle.poa_base.specs.declared.Answer.Answer) → FitsCall call (replied.Answer number answer)
for_command None v may no_request no_locate number answer = never may
for_command (Some (Request head target operation body)) v may no_request no_locate number answer = absurd (true≢false (sym may ∙ no_request))
for_command (Some (Locate head target)) v may no_request no_locate number answer = absurd (true≢false (sym may ∙ no_locate))
for_command (Some (Line n command)) v may no_request no_locate number answer = refl

raised_fits : (call : Option Call) (exception : SysExc) → is_message call ≡ true → FitsCall call (raised_to call exception)
raised_fits None exception message = never message
raised_fits (Some (Request head target operation body)) exception message = refl
raised_fits (Some (Locate head target)) exception message = refl
raised_fits (Some (Line number command)) exception message = never message

forwarded_fits : (call : Option Call) (endpoint : Endpoint) → is_message call ≡ true → FitsCall call (forwarded_to call endpoint)
forwarded_fits None endpoint message = never message
forwarded_fits (Some (Request head target operation body)) endpoint message = refl
forwarded_fits (Some (Locate head target)) endpoint message = refl
forwarded_fits (Some (Line number command)) endpoint message = never message

-- a reply that is given, and this one
same_fits : (call : Option Call) (given reply : Reply) → Some given ≡ Some reply → FitsCall call given → FitsCall call reply
same_fits call given reply is fit = (let e : Some given ≡ Some reply = is in let same : given ≡ reply = cc in subst (FitsCall call) same fit)

addressing_fits : (call : Option Call) → may_get call Addressing ≡ true → FitsCall call replied.Addressing
addressing_fits None may = never may
addressing_fits (Some (Request head target operation body)) may = refl
addressing_fits (Some (Locate head target)) may = refl
addressing_fits (Some (Line number command)) may = never may

here_fits : (call : Option Call) → may_get call Here ≡ true → FitsCall call replied.Here
here_fits None may = never may
here_fits (Some (Request head target operation body)) may = never may
here_fits (Some (Locate head target)) may = refl
here_fits (Some (Line number command)) may = never may

unknown_fits : (call : Option Call) → may_get call Unknown ≡ true → FitsCall call replied.UnknownObject
unknown_fits None may = never may
unknown_fits (Some (Request head target operation body)) may = never may
unknown_fits (Some (Locate head target)) may = refl
unknown_fits (Some (Line number command)) may = never may

verdict_fits : (call : Option Call) (v : Verdict) (reply : Reply) → may_get call v ≡ true → reply_admitted call v ≡ Some reply → FitsCall call reply
verdict_fits call (Refuse exception) reply may is = same_fits call _ reply is (raised_fits call exception (for_message call (Refuse exception) may refl))
verdict_fits call (Forward endpoint) reply may is = same_fits call _ reply is (forwarded_fits call endpoint (for_message call (Forward endpoint) may refl))
verdict_fits call Addressing reply may is = same_fits call _ reply is (addressing_fits call may)
verdict_fits call Here reply may is = same_fits call _ reply is (here_fits call may)
verdict_fits call Unknown reply may is = same_fits call _ reply is (unknown_fits call may)
verdict_fits call (Answer answer) reply may is = same_fits call _ reply is (for_command call (Answer answer) may refl refl _ _)
verdict_fits call Wait reply may is = same_fits call _ reply is (for_command call Wait may refl refl _ _)
verdict_fits call v reply may is = absurd (let e : None ≡ Some reply = is in cc)

tried_fits : (c : Config) (past : List Entry) (call : Option Call) (answer : Attempt) → is_message call ≡ true → FitsCall call (reply_tried c past call answer)
tried_fits c past call Raised message = raised_fits call activator_raised message
tried_fits c past call Dying message = raised_fits call adapter_dying message
tried_fits c past call answer message =
    elim (forward_of c past (key_or_none (key_in call)).path) as (λ o. FitsCall call
    (elim o [ Some endpoint ↦ forwarded_to call endpoint | None ↦ raised_to call not_exist_omg ])) [
      | Some endpoint ↦ forwarded_fits call endpoint message
      | None ↦ raised_fits call not_exist_omg message
    ]

incarnated_fits : (call : Option Call) (answer : Incarnation) (reply : Reply) → is_message call ≡ true → reply_incarnated call answer ≡ Some reply
    → FitsCall call reply
incarnated_fits call Double reply message is = same_fits call _ reply is (raised_fits call servant_double message)
incarnated_fits call (ForwardTo endpoint) reply message is = same_fits call _ reply is (forwarded_fits call endpoint message)
incarnated_fits call (Raise exception) reply message is = same_fits call _ reply is (raised_fits call exception message)
incarnated_fits call answer reply message is = absurd (let e : None ≡ Some reply = is in cc)

-- a servant runs for requests alone
for_servant : (v : Verdict) → runs (Go v) ≡ true → (for_locate v ≡ false) × (for_line v ≡ false)
for_servant (Serve n) runs = (refl, refl)
for_servant (Preset name) runs = (refl, refl)
for_servant (Locator name) runs = (refl, refl)
for_servant (Incarnate n) runs = (refl, refl)
for_servant v runs = never runs

outcome_fits : (call : Option Call) (v : Verdict) (outcome : Outcome) → runs (Go v) ≡ true → may_get call v ≡ true → FitsCall call (replied.Outcome outcome)
outcome_fits None v outcome runs may = never may
outcome_fits (Some (Request head target operation body)) v outcome runs may = refl
outcome_fits (Some (Locate head target)) v outcome runs may = absurd (true≢false (sym may ∙ (for_servant v runs).0))
outcome_fits (Some (Line number command)) v outcome runs may = absurd (true≢false (sym may ∙ (for_servant v runs).1))

run_fits : (c : Config) (run : ℕ) (opened : Stored) (past : List Entry) (servant : Option Sid) (call : Option Call) (reply : Reply)
    → ((outcome : Outcome) → FitsCall call (replied.Outcome outcome)) → reply_run c run opened past servant call ≡ Some reply → FitsCall call reply
run_fits c run opened past None call reply fit is = absurd (let e : None ≡ Some reply = is in cc)
run_fits c run opened past (Some s) call reply fit is = same_fits call _ reply is (fit (acted (state_of c run opened past s) call).1)

waiting_is : (o : Option Verdict) → is_waiting o ≡ true → o ≡ Some Wait
waiting_is (Some Wait) is = refl
waiting_is o is = never is

at_is : (r q : ℕ) (begun : Stage) → arrival_in begun ≡ Some q → is_at r (arrival_in begun) ≡ true → q ≡ r
at_is r q begun is at = eqb-true q r (sym (ap (is_at r) is) ∙ at)

module _ (c : Config) (run limit : ℕ) (opened : Stored) (past : List Entry) (e : Entry) (is : IsRun c run limit (e ∷ past)) (r : ℕ) (reply : Reply) where
  -- the arrival that a worker is at may get the verdict by which it is there
  here_is : (v : Verdict) (q : ℕ) → q ≡ r → admitted past q ≡ Some v → Of (λ call. may_get call v ≡ true) past r
  here_is v q same at = subst (λ x. Of (λ call. may_get call v ≡ true) past x) same (admitted_fits c run limit past is.legal.1 q v at)

  -- what waited until now is a command
  module _ (before : decided c run past r ≡ false) (now : decided c run (e ∷ past) r ≡ true) where
    waited : is_decided_by past e r ≡ false → is_waiting (admitted (e ∷ past) r) ≡ true
    waited not_by =
        elim (cases_Bool (is_waiting (admitted (e ∷ past) r))) [
          | inl yes_ ↦ yes_
          | inr no_ ↦ absurd (true≢false (sym now ∙ ap₂ (λ x y. x || y) not_by (ap₂ (λ x y. x || y) before (ap (λ x. x && settles c run (e ∷ past) r) no_))))
        ]

    waited_fits : is_decided_by past e r ≡ false → (number : ℕ) → Some (replied.Answer number Good) ≡ Some reply → Of (λ call. FitsCall call reply) (e ∷ past) r
    waited_fits not_by number given =
        let it = admitted_fits c run limit (e ∷ past) is.legal r Wait (waiting_is (admitted (e ∷ past) r) (waited not_by)) in
        (it.0, same_fits (call_of (e ∷ past) r) _ reply given (for_command (call_of (e ∷ past) r) Wait it.1 refl refl number Good))

and_none : (b : Bool) → (b && false) ≡ false
and_none true = refl
and_none false = refl

module _ (c : Config) (run limit : ℕ) (opened : Stored) (r : ℕ) (reply : Reply) where
  abbrev Fits : Option Call → Type 0
  Fits call = FitsCall call reply

  tried_not : (past : List Entry) (w : ℕ) (answer : Attempt) → is_at r (arrival_in (stage past w)) ≡ false → is_decided_by past (Tried w answer) r ≡ false
  tried_not past w (Yes n) other = refl
  tried_not past w answer other = other

  by_entry : (past : List Entry) (e : Entry) → IsRun c run limit (e ∷ past) → decided c run past r ≡ false → decided c run (e ∷ past) r ≡ true
      → reply_by c run opened past e r ≡ Some reply → Of Fits (e ∷ past) r
  by_entry past (Admit w a v) is before now =
      cond_both (a == r) (reply_admitted (call_of past r) v) (Some (replied.Answer (number_of (call_of past r)) Good))
      (λ o. o ≡ Some reply → Of Fits (Admit w a v ∷ past) r)
      (λ same given.
      (let it =
      subst (λ x. Of (λ call. may_get call v ≡ true) past x) (eqb-true a r same) (admission_fits c run past w a v (admission_is c run past w a v is.legal.0)) in
      later Fits (Admit w a v) past r (it.0, verdict_fits (call_of past r) v reply it.1 given)))
      (λ other given. waited_fits c run limit opened past (Admit w a v) is r reply before now (ap (λ b. b && is_final v) other)
      (number_of (call_of past r)) given)
  by_entry past (Tried w answer) is before now =
      cond_both (is_at r (arrival_in (stage past w))) (Some (reply_tried c past (call_of past r) answer))
      (Some (replied.Answer (number_of (call_of past r)) Good)) (λ o. o ≡ Some reply → Of Fits (Tried w answer ∷ past) r)
      (λ at given.
      (let turn = trial_is c run past w answer is.legal.0 in
      let holds : Holds past (standing c run past) (Trying turn.arrival) =
      subst (Holds past (standing c run past)) turn.begun ((manned_before c run limit past (Tried w answer) is).stages w) in
      let it =
      here_is c run limit opened past (Tried w answer) is r reply Try turn.arrival
      (at_is r turn.arrival (stage past w) (ap arrival_in turn.begun) at) holds.0 in
      later Fits (Tried w answer) past r
      (it.0, same_fits (call_of past r) _ reply given (tried_fits c past (call_of past r) answer (for_message (call_of past r) Try it.1 refl)))))
      (λ other given. waited_fits c run limit opened past (Tried w answer) is r reply before now (tried_not past w answer other)
      (number_of (call_of past r)) given)
  by_entry past (Incarnated w answer) is before now =
      cond_both (is_at r (arrival_in (stage past w))) (reply_incarnated (call_of past r) answer) (Some (replied.Answer (number_of (call_of past r)) Good))
      (λ o. o ≡ Some reply → Of Fits (Incarnated w answer ∷ past) r)
      (λ at given.
      (let turn = incarnation_is c run past w answer is.legal.0 in
      let holds : Holds past (standing c run past) (Incarnating turn.arrival turn.number) =
      subst (Holds past (standing c run past)) turn.begun ((manned_before c run limit past (Incarnated w answer) is).stages w) in
      let it =
      here_is c run limit opened past (Incarnated w answer) is r reply (Incarnate turn.number) turn.arrival
      (at_is r turn.arrival (stage past w) (ap arrival_in turn.begun) at) holds.0 in
      later Fits (Incarnated w answer) past r
      (it.0, incarnated_fits (call_of past r) answer reply (for_message (call_of past r) (Incarnate turn.number) it.1 refl) given)))
      (λ other given. waited_fits c run limit opened past (Incarnated w answer) is r reply before now
      (ap (λ b. not (brings answer) && b) other ∙ and_none (not (brings answer))) (number_of (call_of past r)) given)
  by_entry past (Run w) is before now =
      cond_both (is_at r (arrival_in (stage past w))) (reply_run c run opened past (servant_run c run past (stage past w)) (call_run past (stage past w)))
      (Some (replied.Answer (number_of (call_of past r)) Good)) (λ o. o ≡ Some reply → Of Fits (Run w ∷ past) r)
      (λ at given.
      (let (q, begun) = run_is c run past w is.legal.0 in
      let holds : Holds past (standing c run past) (Serving q) =
      subst (Holds past (standing c run past)) begun ((manned_before c run limit past (Run w) is).stages w) in
      let same = at_is r q (stage past w) (ap arrival_in begun) at in
      let it = here_is c run limit opened past (Run w) is r reply holds.verdict q same holds.by in
      let whole : call_run past (stage past w) ≡ call_of past r = ap (call_run past) begun ∙ ap (call_of past) same in
      later Fits (Run w) past r (
        it.0,
        subst Fits whole (run_fits c run opened past (servant_run c run past (stage past w)) (call_run past (stage past w)) reply
            (λ outcome. subst (λ x. FitsCall x (replied.Outcome outcome)) (sym whole) (outcome_fits (call_of past r) holds.verdict outcome holds.run it.1))
            given),
      )))
      (λ other given. waited_fits c run limit opened past (Run w) is r reply before now other (number_of (call_of past r)) given)
  by_entry past e is before now = λ given. waited_fits c run limit opened past e is r reply before now refl (number_of (call_of past r)) given

  answered : (h : List Entry) → IsRun c run limit h → reply_of c run opened h r ≡ Some reply → Of Fits h r
  answered [] is given = absurd (let x : None ≡ Some reply = given in cc)
  answered (e ∷ past) is given =
      cond_both (decided c run past r) (reply_of c run opened past r) (if decided c run (e ∷ past) r then reply_by c run opened past e r else None)
      (λ o. o ≡ Some reply → Of Fits (e ∷ past) r)
      (λ _ earlier. later Fits e past r
      (answered past (record { accepted = is.accepted; numbered = is.numbered; limited = is.limited; legal = is.legal.1 }) earlier))
      (λ before. cond_both (decided c run (e ∷ past) r) (reply_by c run opened past e r) None (λ o. o ≡ Some reply → Of Fits (e ∷ past) r)
      (λ now here. by_entry past e is before now here) (λ _ none. absurd (let x : None ≡ Some reply = none in cc)))
      given

  -- of each run the reply of an arrival fits its call
  pub reply_fits : (h : List Entry) → IsRun c run limit h → reply_of c run opened h r ≡ Some reply → FitsCall (call_of h r) reply
  reply_fits h is given = (answered h is given).1
