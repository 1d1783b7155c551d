-- What is decided of the arrival that an entry speaks of, and of those that wait.
use Rattle.std.specs.Prelude.{◌≡◌, ℕ, Bool, true, false, not, ◌&&◌, ◌||◌, ◌==◌, if◌then◌else◌, List, ◌∷◌, Option, Some, None, option_map, option_and_then, refl}
use Rattle.std.proofs.Common.{sym, subst, ap, ap₂, ◌∙◌}
use Rattle.std.proofs.lemmas.Bool.{cond_both, true≢false, eqb-true}
use Rattle.core_settings.specs.declared.settings.Settings.{Settings}
use Rattle.poa_base.specs.declared.Answer.TheVariants.{Good}
use Rattle.poa_base.specs.declared.Attempt.{Attempt}
use Rattle.poa_base.specs.declared.Attempt.TheVariants.{Yes, No, Raised, Dying}
use Rattle.poa_base.specs.declared.Call.{Call}
use Rattle.poa_base.specs.declared.Config.{Config}
use Rattle.poa_base.specs.declared.Entry.{Entry}
use Rattle.poa_base.specs.declared.Entry.TheVariants.{Entered, Arrive, Filled, Left, Collect, Admit, Tried, Incarnated, Run, Done, TakeOut, Etherealized, Abandon}
use Rattle.poa_base.specs.declared.Incarnation.{Incarnation}
use Rattle.poa_base.specs.declared.Incarnation.TheVariants.{Fresh, Named, Double, Forward as ForwardTo, Raise}
use Rattle.poa_base.specs.declared.Outcome.{Outcome}
use Rattle.poa_base.specs.declared.Reply.{Reply}
use Rattle.poa_base.specs.declared.Reply.TheVariants.{Outcome as Ended, Answer as AnswerReply}
use Rattle.poa_base.specs.declared.Sid.{Sid}
use Rattle.poa_base.specs.declared.Verdict.{Verdict}
use Rattle.poa_base.specs.declared.Verdict.TheVariants.{Serve, Preset, Locator, Incarnate, Try, Refuse, Forward, Addressing as AddressingVerdict, Here, Unknown, Answer, Wait}
use Rattle.history_standing.specs.Arrivals.{call_of}
use Rattle.history_standing.specs.Changes.{standing}
use Rattle.poa_history.specs.InFlight.{Holds, IsManned}
use Rattle.poa_history.specs.Replies.{decided, is_decided_by, is_final, is_waiting, number_of, reply_admitted, reply_by, reply_incarnated, reply_run, reply_tried}
use Rattle.poa_history.specs.Settling.{settles}
use Rattle.history_standing.specs.Stages.{admitted, arrival_in, brings, is_at, stage}
use Rattle.history_standing.specs.Standings.{Standing}
use Rattle.poa_history.specs.States.{Stored, acted, call_run, servant_run, state_of}
use Rattle.history_standing.specs.declared.stage.Stage.{Stage}
use Rattle.history_standing.specs.declared.stage.Stage.TheVariants.{Free, Trying, Incarnating, Serving, Ran, Removing}
use Rattle.poa_choose.specs.Laws.{runs}
use Rattle.poa_choose.specs.declared.Choice.TheVariants.{Go}
use Rattle.core_outboxes.specs.Decided.{Decides}
use Rattle.core_outboxes.specs.Comes.{Comes, arrival_at}
use Rattle.core_outboxes.specs.Fixed.{may_decide, reply_in, target_in}

-- what waits doesn't run
waits_not : (v : Verdict) → runs (Go v) ≡ true → is_waiting (Some v) ≡ false
waits_not (Serve n) ran = refl
waits_not (Preset s) ran = refl
waits_not (Locator s) ran = refl
waits_not (Incarnate n) ran = refl
waits_not Try ran = refl
waits_not (Refuse x) ran = refl
waits_not (Forward x) ran = refl
waits_not AddressingVerdict ran = refl
waits_not Here ran = refl
waits_not Unknown ran = refl
waits_not (Answer x) ran = refl
waits_not Wait ran = absurd (let e : false ≡ true = ran in cc)

-- the arrival that a worker is at doesn't wait
pub held_waits_not : (h : List Entry) (s : Standing) (begun : Stage) (r : ℕ) → Holds h s begun → is_at r (arrival_in begun) ≡ true
    → is_waiting (admitted h r) ≡ false
held_waits_not h s (Trying q) r holds at = ap (λ x. is_waiting (admitted h x)) (sym (eqb-true q r at)) ∙ ap is_waiting holds.0
held_waits_not h s (Incarnating q n) r holds at = ap (λ x. is_waiting (admitted h x)) (sym (eqb-true q r at)) ∙ ap is_waiting holds.0
held_waits_not h s (Serving q) r holds at = ap (λ x. is_waiting (admitted h x)) (sym (eqb-true q r at)) ∙ ap is_waiting holds.by
    ∙ waits_not holds.verdict holds.run
held_waits_not h s (Ran q) r holds at = ap (λ x. is_waiting (admitted h x)) (sym (eqb-true q r at)) ∙ ap is_waiting holds.by ∙ waits_not holds.verdict holds.run
held_waits_not h s Free r holds at = absurd (let e : false ≡ true = at in cc)
held_waits_not h s (Removing n) r holds at = absurd (let e : false ≡ true = at in cc)

-- the reply of a target; else the answer to a command that waited
abbrev reply_or_good : Bool → Option Reply → List Entry → ℕ → Option Reply
reply_or_good at reply past r = if at then reply else Some (AnswerReply (number_of (call_of past r)) Good)

-- where the entry may decide the arrival that it speaks of
pub record IsFixed (c : Config) (run : ℕ) (opened : Stored) (past : List Entry) (e : Entry) (o : Option Reply) : Type 0 where
  pub decided_is : (r : ℕ) → is_decided_by past e r ≡ is_at r (arrival_at past e)
  pub reply_is : (r : ℕ) → reply_by c run opened past e r ≡ reply_or_good (is_at r (arrival_at past e)) o past r
  pub some : Reply
  pub is : o ≡ Some some

module _ (c : Config) (run : ℕ) (opened : Stored) (past : List Entry) where
  -- where it may not, it decides what waited alone
  pub record IsNot (e : Entry) : Type 0 where
    pub decided_is : (r : ℕ) → is_decided_by past e r ≡ false
    pub reply_is : (r : ℕ) → decided c run past r ≡ false → decided c run (e ∷ past) r ≡ true
        → reply_by c run opened past e r ≡ Some (AnswerReply (number_of (call_of past r)) Good)

  decides_none : (e : Entry) → IsNot e → Decides c run opened past e None
  decides_none e not_ = record { target_is = λ r less. not_.decided_is r; reply_is = λ r less before after. not_.reply_is r before after }

  -- it speaks of no arrival
  decides_nobody : (e : Entry) (o : Option Reply) → arrival_at past e ≡ None → IsFixed c run opened past e o → Decides c run opened past e None
  decides_nobody e o none fixed =
      record {
        target_is = λ r less. fixed.decided_is r ∙ ap (is_at r) none;
        reply_is = λ r less before after. fixed.reply_is r ∙ ap (λ t. reply_or_good (is_at r t) o past r) none;
      }

  decides_some : (e : Entry) (o : Option Reply) (a : ℕ) (x : Reply) → arrival_at past e ≡ Some a → o ≡ Some x → IsFixed c run opened past e o
      → Decides c run opened past e (Some (record { arrival = a; reply = x }))
  decides_some e o a x at is fixed =
      record {
        target_is = λ r less. fixed.decided_is r ∙ ap (is_at r) at;
        reply_is = λ r less before after.
            fixed.reply_is r
            ∙ ap₂ (λ t y. reply_or_good (is_at r t) y past r) at is
            ∙ elim (a == r) as (λ b. reply_or_good b (Some x) past r ≡ Some (if b then x else AnswerReply (number_of (call_of past r)) Good))
            [ true ↦ refl | false ↦ refl ];
      }

  unless_waits : (e : Entry) (r : ℕ) → is_decided_by past e r ≡ false → is_waiting (admitted (e ∷ past) r) ≡ false → decided c run past r ≡ false
      → decided c run (e ∷ past) r ≡ true → ⊥
  unless_waits e r by waits before after =
      true≢false (sym after ∙ ap₂ (λ x y. x || y) by (ap₂ (λ x y. x || y) before (ap (λ b. b && settles c run (e ∷ past) r) waits)))

  -- an entry that speaks of no call leaves all but what waits
  quiet_not : (e : Entry) → ((r : ℕ) → is_decided_by past e r ≡ false)
      → ((r : ℕ) → reply_by c run opened past e r ≡ Some (AnswerReply (number_of (call_of past r)) Good)) → IsNot e
  quiet_not e decides replies = record { decided_is = decides; reply_is = λ r before after. replies r }

  -- a verdict that isn't the end of a call
  admit_not : (w a : ℕ) (v : Verdict) → is_final v ≡ false → IsNot (Admit w a v)
  admit_not w a v goes = record { decided_is = decides; reply_is = replies v goes }
    where
      decides : (r : ℕ) → ((a == r) && is_final v) ≡ false
      decides r = ap (λ b. (a == r) && b) goes ∙ elim (a == r) as (λ b. (b && false) ≡ false) [ true ↦ refl | false ↦ refl ]

      other : (r : ℕ) (u : Verdict) → ((a == r) ≡ true → reply_admitted (call_of past r) u ≡ Some (AnswerReply (number_of (call_of past r)) Good))
          → (if a == r then reply_admitted (call_of past r) u else Some (AnswerReply (number_of (call_of past r)) Good)) ≡ Some
          (AnswerReply (number_of (call_of past r)) Good)
      other r u at = cond_both (a == r) _ _ (λ x. x ≡ Some (AnswerReply (number_of (call_of past r)) Good)) at (λ _. refl)

      contrary : (r : ℕ) (u : Verdict) → is_final u ≡ false → is_waiting (Some u) ≡ false → decided c run past r ≡ false
          → decided c run (Admit w a u ∷ past) r ≡ true → (a == r) ≡ true → ⊥
      contrary r u on waits before after at =
          unless_waits (Admit w a u) r (ap₂ (λ x y. x && y) at on) (ap (λ b. is_waiting (if b then Some u else admitted past r)) at ∙ waits) before after

      replies : (u : Verdict) → is_final u ≡ false → (r : ℕ) → decided c run past r ≡ false → decided c run (Admit w a u ∷ past) r ≡ true
          → reply_by c run opened past (Admit w a u) r ≡ Some (AnswerReply (number_of (call_of past r)) Good)
      replies Wait on r before after = other r Wait (λ _. refl)
      replies (Serve n) on r before after = other r (Serve n) (λ at. absurd (contrary r (Serve n) refl refl before after at))
      replies (Preset n) on r before after = other r (Preset n) (λ at. absurd (contrary r (Preset n) refl refl before after at))
      replies (Locator n) on r before after = other r (Locator n) (λ at. absurd (contrary r (Locator n) refl refl before after at))
      replies (Incarnate n) on r before after = other r (Incarnate n) (λ at. absurd (contrary r (Incarnate n) refl refl before after at))
      replies Try on r before after = other r Try (λ at. absurd (contrary r Try refl refl before after at))
      replies (Refuse x) on r before after = absurd (true≢false on)
      replies (Forward x) on r before after = absurd (true≢false on)
      replies AddressingVerdict on r before after = absurd (true≢false on)
      replies Here on r before after = absurd (true≢false on)
      replies Unknown on r before after = absurd (true≢false on)
      replies (Answer x) on r before after = absurd (true≢false on)

  -- the reply is of the worker's arrival, which can't be decided
  at_or_good : (w r : ℕ) (x : Option Reply) → (is_at r (arrival_in (stage past w)) ≡ true → ⊥)
      → reply_or_good (is_at r (arrival_in (stage past w))) x past r ≡ Some (AnswerReply (number_of (call_of past r)) Good)
  at_or_good w r x never =
      cond_both (is_at r (arrival_in (stage past w))) _ _ (λ y. y ≡ Some (AnswerReply (number_of (call_of past r)) Good)) (λ at. absurd (never at)) (λ _. refl)

  -- a trial that made the child: its arrival is to be admitted again
  tried_not : (w n : ℕ) → IsNot (Tried w (Yes n))
  tried_not w n = record {
    decided_is = λ r. refl;
    reply_is = λ r before after. at_or_good w r _ (λ at.
        unless_waits (Tried w (Yes n)) r refl (ap (λ b. is_waiting (if b then None else admitted past r)) at) before after);
  }

  -- an incarnation that brought a servant: it is to run
  brought_not : IsManned c run past → (w : ℕ) (answer : Incarnation) → brings answer ≡ true → IsNot (Incarnated w answer)
  brought_not manned w answer brought = record {
    decided_is = λ r. ap (λ b. not b && is_at r (arrival_in (stage past w))) brought;
    reply_is = λ r before after. at_or_good w r _ (λ at.
        unless_waits (Incarnated w answer) r (ap (λ b. not b && is_at r (arrival_in (stage past w))) brought)
        (held_waits_not past (standing c run past) (stage past w) r (manned.stages w) at) before after);
  }

  pub is_not : IsManned c run past → (e : Entry) → may_decide e ≡ false → IsNot e
  is_not manned (Admit w r v) never = admit_not w r v never
  is_not manned (Tried w (Yes n)) never = tried_not w n
  is_not manned (Tried w No) never = absurd (true≢false never)
  is_not manned (Tried w Raised) never = absurd (true≢false never)
  is_not manned (Tried w Dying) never = absurd (true≢false never)
  is_not manned (Incarnated w (Fresh n)) never = brought_not manned w (Fresh n) refl
  is_not manned (Incarnated w (Named n)) never = brought_not manned w (Named n) refl
  is_not manned (Incarnated w Double) never = absurd (true≢false never)
  is_not manned (Incarnated w (ForwardTo x)) never = absurd (true≢false never)
  is_not manned (Incarnated w (Raise x)) never = absurd (true≢false never)
  is_not manned (Run w) never = absurd (true≢false never)
  is_not manned (Entered conn) never = quiet_not (Entered conn) (λ r. refl) (λ r. refl)
  is_not manned (Arrive conn size call) never = quiet_not (Arrive conn size call) (λ r. refl) (λ r. refl)
  is_not manned (Filled conn size) never = quiet_not (Filled conn size) (λ r. refl) (λ r. refl)
  is_not manned (Left conn) never = quiet_not (Left conn) (λ r. refl) (λ r. refl)
  is_not manned (Collect conn a) never = quiet_not (Collect conn a) (λ r. refl) (λ r. refl)
  is_not manned (Done w) never = quiet_not (Done w) (λ r. refl) (λ r. refl)
  is_not manned (TakeOut w n x) never = quiet_not (TakeOut w n x) (λ r. refl) (λ r. refl)
  is_not manned (Etherealized w x y) never = quiet_not (Etherealized w x y) (λ r. refl) (λ r. refl)
  is_not manned (Abandon w) never = quiet_not (Abandon w) (λ r. refl) (λ r. refl)

  -- the reply of the arrival that the entry speaks of is that of its call
  swap : (b : Bool) (x y z : Option Reply) → (b ≡ true → x ≡ y) → (if b then x else z) ≡ (if b then y else z)
  swap b x y z same =
      cond_both b x z (λ v. v ≡ (if b then y else z)) (λ is. same is ∙ sym (ap (λ a. if a then y else z) is)) (λ is. sym (ap (λ a. if a then y else z) is))

  call_for : (o : Option ℕ) (r : ℕ) → is_at r o ≡ true → call_of past r ≡ option_and_then (call_of past) o
  call_for (Some x) r at = ap (call_of past) (sym (eqb-true x r at))
  call_for None r at = absurd (true≢false (sym at))

  final_some : (call : Option Call) (v : Verdict) → is_final v ≡ true → (reply : Reply) × (reply_admitted call v ≡ Some reply)
  final_some call (Refuse x) ends = (_, refl)
  final_some call (Forward x) ends = (_, refl)
  final_some call AddressingVerdict ends = (_, refl)
  final_some call Here ends = (_, refl)
  final_some call Unknown ends = (_, refl)
  final_some call (Answer x) ends = (_, refl)
  final_some call Wait ends = absurd (true≢false (sym ends))
  final_some call (Serve n) ends = absurd (true≢false (sym ends))
  final_some call (Preset n) ends = absurd (true≢false (sym ends))
  final_some call (Locator n) ends = absurd (true≢false (sym ends))
  final_some call (Incarnate n) ends = absurd (true≢false (sym ends))
  final_some call Try ends = absurd (true≢false (sym ends))

  admit_fixed : (w a : ℕ) (v : Verdict) → is_final v ≡ true → IsFixed c run opened past (Admit w a v) (reply_admitted (call_of past a) v)
  admit_fixed w a v ends =
      let reply = final_some (call_of past a) v ends in
      record {
        decided_is = λ r. ap (λ b. (a == r) && b) ends ∙ elim (a == r) as (λ b. (b && true) ≡ b) [ true ↦ refl | false ↦ refl ];
        reply_is = λ r. swap (a == r) _ _ _ (λ at. ap (λ q. reply_admitted (call_of past q) v) (sym (eqb-true a r at)));
        some = reply.0;
        is = reply.1;
      }

  abbrev call_in : ℕ → Option Call
  call_in w = option_and_then (call_of past) (arrival_in (stage past w))

  tried_is : (w : ℕ) (answer : Attempt) (r : ℕ)
      → (if is_at r (arrival_in (stage past w)) then Some (reply_tried c past (call_of past r) answer) else Some
      (AnswerReply (number_of (call_of past r)) Good)) ≡ reply_or_good (is_at r (arrival_in (stage past w)))
      (Some (reply_tried c past (call_in w) answer)) past r
  tried_is w answer r =
      swap (is_at r (arrival_in (stage past w))) _ _ _ (λ at. ap (λ q. Some (reply_tried c past q answer)) (call_for (arrival_in (stage past w)) r at))

  tried_fixed : (w : ℕ) (answer : Attempt) → may_decide (Tried w answer) ≡ true
      → IsFixed c run opened past (Tried w answer) (Some (reply_tried c past (call_in w) answer))
  tried_fixed w (Yes n) may = absurd (true≢false (sym may))
  tried_fixed w No may = record { decided_is = λ r. refl; reply_is = tried_is w No; some = _; is = refl }
  tried_fixed w Raised may = record { decided_is = λ r. refl; reply_is = tried_is w Raised; some = _; is = refl }
  tried_fixed w Dying may = record { decided_is = λ r. refl; reply_is = tried_is w Dying; some = _; is = refl }

  incarnated_is : (w : ℕ) (answer : Incarnation) (r : ℕ)
      → (if is_at r (arrival_in (stage past w)) then reply_incarnated (call_of past r) answer else Some
      (AnswerReply (number_of (call_of past r)) Good)) ≡ reply_or_good (is_at r (arrival_in (stage past w))) (reply_incarnated (call_in w) answer) past r
  incarnated_is w answer r =
      swap (is_at r (arrival_in (stage past w))) _ _ _ (λ at. ap (λ q. reply_incarnated q answer) (call_for (arrival_in (stage past w)) r at))

  incarnated_fixed : (w : ℕ) (answer : Incarnation) → may_decide (Incarnated w answer) ≡ true
      → IsFixed c run opened past (Incarnated w answer) (reply_incarnated (call_in w) answer)
  incarnated_fixed w (Fresh n) may = absurd (true≢false (sym may))
  incarnated_fixed w (Named n) may = absurd (true≢false (sym may))
  incarnated_fixed w Double may = record { decided_is = λ r. refl; reply_is = incarnated_is w Double; some = _; is = refl }
  incarnated_fixed w (ForwardTo x) may = record { decided_is = λ r. refl; reply_is = incarnated_is w (ForwardTo x); some = _; is = refl }
  incarnated_fixed w (Raise x) may = record { decided_is = λ r. refl; reply_is = incarnated_is w (Raise x); some = _; is = refl }

  run_fixed : (w : ℕ) (s : Sid) (outcome : Option Outcome) → servant_run c run past (stage past w) ≡ Some s
      → outcome ≡ Some (acted (state_of c run opened past s) (call_run past (stage past w))).1 → IsFixed c run opened past (Run w) (option_map Ended outcome)
  run_fixed w s outcome runs_ told = record {
    decided_is = λ r. refl;
    reply_is = λ r. ap (λ o. reply_or_good (is_at r (arrival_in (stage past w))) o past r)
        (ap (λ o. reply_run c run opened past o (call_run past (stage past w))) runs_ ∙ sym (ap (option_map Ended) told));
    some = Ended (acted (state_of c run opened past s) (call_run past (stage past w))).1;
    is = ap (option_map Ended) told;
  }

  module _ (begun : Stage) (call : Option Call) (settings : Settings) (outcome : Option Outcome) where
    pub is_fixed : (e : Entry) → may_decide e ≡ true → Comes c run opened past e begun call settings outcome
        → IsFixed c run opened past e (reply_in c past call outcome e)
    is_fixed (Admit w r v) may comes = subst (λ q. IsFixed c run opened past (Admit w r v) (reply_admitted q v)) (sym comes.call_is) (admit_fixed w r v may)
    is_fixed (Tried w answer) may comes =
        subst (λ q. IsFixed c run opened past (Tried w answer) (Some (reply_tried c past q answer))) (sym comes.call_is) (tried_fixed w answer may)
    is_fixed (Incarnated w answer) may comes =
        subst (λ q. IsFixed c run opened past (Incarnated w answer) (reply_incarnated q answer)) (sym comes.call_is) (incarnated_fixed w answer may)
    is_fixed (Run w) may comes = run_fixed w comes.ran.0 outcome comes.ran.1 comes.ran.2
    is_fixed (Entered conn) may comes = absurd (true≢false (sym may))
    is_fixed (Arrive conn size x) may comes = absurd (true≢false (sym may))
    is_fixed (Filled conn size) may comes = absurd (true≢false (sym may))
    is_fixed (Left conn) may comes = absurd (true≢false (sym may))
    is_fixed (Collect conn a) may comes = absurd (true≢false (sym may))
    is_fixed (Done w) may comes = absurd (true≢false (sym may))
    is_fixed (TakeOut w n x) may comes = absurd (true≢false (sym may))
    is_fixed (Etherealized w x y) may comes = absurd (true≢false (sym may))
    is_fixed (Abandon w) may comes = absurd (true≢false (sym may))

    target_is : (e : Entry) → may_decide e ≡ true → Comes c run opened past e begun call settings outcome → target_in begun e ≡ arrival_at past e
    target_is (Admit w r v) may comes = refl
    target_is (Tried w answer) may comes = ap arrival_in comes.at_stage
    target_is (Incarnated w answer) may comes = ap arrival_in comes.at_stage
    target_is (Run w) may comes = ap arrival_in comes.at_stage
    target_is (Entered conn) may comes = absurd (true≢false (sym may))
    target_is (Arrive conn size x) may comes = absurd (true≢false (sym may))
    target_is (Filled conn size) may comes = absurd (true≢false (sym may))
    target_is (Left conn) may comes = absurd (true≢false (sym may))
    target_is (Collect conn a) may comes = absurd (true≢false (sym may))
    target_is (Done w) may comes = absurd (true≢false (sym may))
    target_is (TakeOut w n x) may comes = absurd (true≢false (sym may))
    target_is (Etherealized w x y) may comes = absurd (true≢false (sym may))
    target_is (Abandon w) may comes = absurd (true≢false (sym may))

    -- an entry that may decide its arrival decides it, with its reply
    pub may_decides : (e : Entry) (a : ℕ) (x : Reply) → may_decide e ≡ true → Comes c run opened past e begun call settings outcome
        → target_in begun e ≡ Some a → reply_in c past call outcome e ≡ Some x → Decides c run opened past e (Some (record { arrival = a; reply = x }))
    may_decides e a x may comes at is =
        decides_some e (reply_in c past call outcome e) a x (sym (target_is e may comes) ∙ at) is (is_fixed e may comes)

    -- where there is no such arrival, it decides none
    pub decides_without : (e : Entry) → may_decide e ≡ true → Comes c run opened past e begun call settings outcome → target_in begun e ≡ None
        → Decides c run opened past e None
    decides_without e may comes none =
        decides_nobody e (reply_in c past call outcome e) (sym (target_is e may comes) ∙ none) (is_fixed e may comes)

    -- it has a reply
    pub has_reply : (e : Entry) → may_decide e ≡ true → Comes c run opened past e begun call settings outcome → reply_in c past call outcome e ≡ None → ⊥
    has_reply e may comes none =
        (let fixed = is_fixed e may comes in
        let same : None ≡ Some fixed.some = sym none ∙ fixed.is in cc)

    -- and one that may not decides none
    pub never_decides : (e : Entry) → may_decide e ≡ false → Comes c run opened past e begun call settings outcome → Decides c run opened past e None
    never_decides e never comes = decides_none e (is_not comes.manned e never)
