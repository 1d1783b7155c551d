-- An object, or an arrival that was admitted as a command, makes one id at most.
use Rattle.std.specs.Prelude.{◌≡◌, ℕ, zero, suc, ◌+◌, ◌<◌, ◌≤◌, ◌^◌, Bool, true, false, not, ◌&&◌, ◌==◌, nat_lt, if◌then◌else◌, List, [], ◌∷◌, length, Option, Some, None, is_some, is_none, refl}
use Rattle.std.proofs.Common.{inl, inr, sym, subst, ap, ap₂, ◌∙◌, arith}
use Rattle.std.proofs.lemmas.Bool.{cases_Bool, cond_both, and_parts, true≢false, eqb-true, eq-eqb, ltb-true, ltb-false, false_from_ne_true}
use Rattle.poa_base.specs.declared.Config.{Config}
use Rattle.poa_base.specs.declared.AdapterConf.{AdapterConf}
use Rattle.poa_base.specs.declared.ObjectConf.{ObjectConf}
use Rattle.poa_base.specs.declared.Key.{Key}
use Rattle.poa_base.specs.declared.Call.{Call}
use Rattle.poa_base.specs.declared.Call.TheVariants.{Request, Locate, Line}
use Rattle.poa_base.specs.declared.Command.{Command}
use Rattle.poa_base.specs.declared.Command.TheVariants.{Manager, Create, Destroy, Activate, ActivateId, Deactivate, Reference, Preset as PresetLine, Forward as ForwardLine, Unforward, Shutdown, Bad}
use Rattle.poa_base.specs.declared.Order.TheVariants.{Activate as ActivateAll, Hold, Discard, Deactivate as DeactivateAll}
use Rattle.poa_base.specs.declared.Verdict.{Verdict}
use Rattle.poa_base.specs.declared.Verdict.TheVariants.{Serve, Preset, Locator, Incarnate, Try, Refuse, Forward, Addressing, Here, Unknown, Answer, Wait}
use Rattle.poa_base.specs.declared.Entry.{Entry}
use Rattle.poa_base.specs.declared.Entry.TheVariants.{Entered, Arrive, Filled, Left, Collect, Admit, Tried, Incarnated, Run, Done, TakeOut, Etherealized, Abandon}
use Rattle.poa_base.specs.declared.Attempt.{Attempt}
use Rattle.poa_base.specs.declared.Attempt.TheVariants.{Yes, No, Raised, Dying as ParentDying}
use Rattle.poa_base.specs.declared.Incarnation.{Incarnation}
use Rattle.poa_base.specs.declared.Incarnation.TheVariants.{Fresh, Named, Double, Forward as ForwardTo, Raise}
use Rattle.history_standing.specs.declared.flight.Flight.{Flight}
use Rattle.poa_base.specs.declared.Sid.TheVariants.{Named as NamedServant}
use Rattle.history_standing.specs.declared.activation.Phase.TheVariants.{Complete}
use Rattle.history_standing.specs.declared.stage.Stage.{Stage}
use Rattle.history_standing.specs.declared.stage.Stage.TheVariants.{Free, Trying, Incarnating, Serving, Ran, Removing}
use Rattle.history_standing.specs.Searches.{count_below}
use Rattle.history_standing.specs.Templates.{manager_number, servant_number}
use Rattle.history_standing.specs.Arrivals.{arrivals, call_of}
use Rattle.history_standing.specs.Stages.{stage, arrival_in, is_at, admitted, is_unadmitted}
use Rattle.history_standing.specs.Standings.{Standing}
use Rattle.history_standing.specs.Paths.{is_root}
use Rattle.history_standing.specs.Trees.{In}
use Rattle.history_standing.specs.Keys.{key_in}
use Rattle.history_standing.specs.Logs.{is_accepted, command_in, command_done}
use Rattle.history_standing.specs.Opening.{with_node, with_activation, with_made, made_id, number_at, with_boots, with_object, with_objects, root_alone, opening}
use Rattle.history_standing.specs.Commands.{is_implicit, live_at}
use Rattle.history_standing.specs.Changes.{standing, changed, with_admitted, with_made_activation, with_manager_off, with_reference, with_command, child_tried, with_child, without_flight, with_tried, with_incarnated, with_etherealized}
use Rattle.poa_history.specs.Turns.{flight_of, node_of, attempt_at, attempt}
use Rattle.poa_history.specs.Legal.{MayFollow, IsLegal, MayArrive, is_shutdown, had_shutdown}
use Rattle.poa_history.specs.Bounds.{IsWithinLimits, HasFewIds}
use Rattle.history_standing.proofs.Finding.{find_in}
use Rattle.poa_history.proofs.SettledKept.{or_first}
use Rattle.poa_history.proofs.TurnTells.{IsAdmission, IsTrial, admission_is, trial_is}
use Rattle.poa_history.proofs.FlightsFrom.{flight_for, flew, begins, flight_from}
use Rattle.poa_history.proofs.Untouched.{made_in, flights_in}
use Rattle.history_standing.proofs.CallsKept.{arrivals_kept, call_kept}

-- counts
abbrev one_if : Bool → ℕ
one_if true = 1
one_if false = 0

count_more : (p q : ℕ → Bool) (k : ℕ) → ((r : ℕ) → r < k → p r ≡ true → q r ≡ true) → count_below p k ≤ count_below q k
count_more p q zero more = omega arith
count_more p q (suc k) more =
    let before : count_below p k ≤ count_below q k = count_more p q k (λ r less. more r (omega (arith, less))) in
    cond_both (p k) 1 0 (λ n. count_below p k + n ≤ count_below p k + n → count_below p k + n ≤ count_below q k + (if q k then 1 else 0))
    (λ passes _. subst (λ b. count_below p k + 1 ≤ count_below q k + (if b then 1 else 0)) (sym (more k (omega arith) passes)) (omega (arith, before)))
    (λ _ _. omega (arith, before)) (omega arith)

count_one_more : (p q : ℕ → Bool) (k r : ℕ) → r < k → p r ≡ false → q r ≡ true → ((x : ℕ) → x < k → p x ≡ true → q x ≡ true)
    → count_below p k + 1 ≤ count_below q k
count_one_more p q zero r less no_ yes_ more = absurd (omega (arith, less))
count_one_more p q (suc k) r less no_ yes_ more =
    elim (cases_Bool (r == k)) [
      | inl same ↦ (let at : r ≡ k = eqb-true r k same in
          let before : count_below p k ≤ count_below q k = count_more p q k (λ x low. more x (omega (arith, low))) in
          subst (λ b. count_below p k + (if b then 1 else 0) + 1 ≤ count_below q k + (if q k then 1 else 0)) (sym (ap p (sym at) ∙ no_))
          (subst (λ b. count_below p k + 0 + 1 ≤ count_below q k + (if b then 1 else 0)) (sym (ap q (sym at) ∙ yes_)) (omega (arith, before))))
      | inr other ↦ (let lower : r < k = below_by other in
          let before : count_below p k + 1 ≤ count_below q k = count_one_more p q k r lower no_ yes_ (λ x low. more x (omega (arith, low))) in
          cond_both (p k) 1 0 (λ n. count_below p k + n + 1 ≤ count_below q k + (if q k then 1 else 0))
          (λ passes. subst (λ b. count_below p k + 1 + 1 ≤ count_below q k + (if b then 1 else 0)) (sym (more k (omega arith) passes)) (omega (arith, before)))
          (λ _. omega (arith, before)))
    ]
  where
    below_by : (r == k) ≡ false → r < k
    below_by other =
        elim (cases_Bool (nat_lt r k)) [
          | inl low ↦ ltb-true r k low
          | inr high ↦ absurd (true≢false (sym (eq-eqb r k (let above = ltb-false r k high in omega (arith, above, less))) ∙ other))
        ]

count_bound : (p : ℕ → Bool) (k : ℕ) → count_below p k ≤ k
count_bound p zero = omega arith
count_bound p (suc k) =
    (let before = count_bound p k in cond_both (p k) 1 0 (λ n. count_below p k + n ≤ suc k) (λ _. omega (arith, before)) (λ _. omega (arith, before)))

-- a command that was admitted
abbrev is_done : List Entry → ℕ → Bool
is_done h r = is_some (command_in (call_of h r)) && is_some (admitted h r)

-- what has a key is no command
keyed_no_command : (call : Option Call) (key : Key) → key_in call ≡ Some key → command_in call ≡ None
keyed_no_command (Some (Line number command)) key has = absurd (let e : None ≡ Some key = has in cc)
keyed_no_command (Some (Request head target operation body)) key has = refl
keyed_no_command (Some (Locate head target)) key has = refl
keyed_no_command None key has = refl

-- what is in flight arrived, and is no command
pub record IsMessageFlight (h : List Entry) (f : Flight) : Type 0 where
  pub arrived : f.arrival < arrivals h
  pub message : command_in (call_of h f.arrival) ≡ None

abbrev pub AreMessages : Config → ℕ → List Entry → Type 0
AreMessages c run h = (f : Flight) → In f (standing c run h).flights → IsMessageFlight h f

arrival_for : (s : Standing) (r : ℕ) (key : Key) (v : Verdict) (f : Flight) → flight_for s r key v ≡ Some f → f.arrival ≡ r
arrival_for s r key (Serve n) f is = ap (λ o. elim o [ Some g ↦ g.arrival | None ↦ r ]) (sym is)
arrival_for s r key (Preset n) f is = ap (λ o. elim o [ Some g ↦ g.arrival | None ↦ r ]) (sym is)
arrival_for s r key (Locator n) f is = ap (λ o. elim o [ Some g ↦ g.arrival | None ↦ r ]) (sym is)
arrival_for s r key (Incarnate n) f is = ap (λ o. elim o [ Some g ↦ g.arrival | None ↦ r ]) (sym is)
arrival_for s r key Try f is = ap (λ o. elim o [ Some g ↦ g.arrival | None ↦ r ]) (sym is)
arrival_for s r key (Refuse x) f is = absurd (let e : None ≡ Some f = is in cc)
arrival_for s r key (Forward x) f is = absurd (let e : None ≡ Some f = is in cc)
arrival_for s r key Addressing f is = absurd (let e : None ≡ Some f = is in cc)
arrival_for s r key Here f is = absurd (let e : None ≡ Some f = is in cc)
arrival_for s r key Unknown f is = absurd (let e : None ≡ Some f = is in cc)
arrival_for s r key (Answer x) f is = absurd (let e : None ≡ Some f = is in cc)
arrival_for s r key Wait f is = absurd (let e : None ≡ Some f = is in cc)

module _ (c : Config) (run limit : ℕ) (past : List Entry) where
  step_messages : (e : Entry) → MayFollow c run limit past e → AreMessages c run past → AreMessages c run (e ∷ past)
  step_messages e may messages f there =
      elim (flight_from past (standing c run past) c run e f there) [
        | flew was ↦ (let is = messages f was in kept is.arrived is.message)
        | begins w r v key same has for_ ↦ (let admission = admission_is c run past w r v (subst (λ x. MayFollow c run limit past x) same may) in
            let at : f.arrival ≡ r = arrival_for (standing c run past) r key v f for_ in
            kept (subst (λ x. x < arrivals past) (sym at) admission.arrived)
            (ap (λ x. command_in (call_of past x)) at ∙ keyed_no_command (call_of past r) key has))
      ]
    where
      kept : f.arrival < arrivals past → command_in (call_of past f.arrival) ≡ None → IsMessageFlight (e ∷ past) f
      kept less message =
          record {
            arrived = (let more = arrivals_kept e past in omega (arith, less, more));
            message = ap command_in (call_kept e past f.arrival less) ∙ message;
          }

  -- an answer of an adapter activator concerns what is in flight
  tried_flies : (r k : ℕ) → attempt c (standing c run past) r ≡ Yes k → (f : Flight) × In f (standing c run past).flights × (f.arrival ≡ r)
  tried_flies r k yes_ =
      elim (flight_of (standing c run past) r) as (λ o. flight_of (standing c run past) r ≡ o
      → (elim o [ None ↦ No | Some f ↦ elim f.child [ None ↦ No | Some child ↦ attempt_of f child ] ]) ≡ Yes k → (f : Flight)
      × In f (standing c run past).flights × (f.arrival ≡ r)) [
        | None ↦ λ _ no_. absurd (let e : No ≡ Yes k = no_ in cc)
        | Some f ↦ λ found _. (let there = find_in (λ g. g.arrival == r) f (standing c run past).flights found in (f, there.0, eqb-true f.arrival r there.1))
      ] refl yes_
    where
      attempt_of : Flight → List (List ℕ) → Attempt
      attempt_of f child = attempt_at c (standing c run past) (node_of (standing c run past) f.adapter) child

  abbrev done_count : List Entry → ℕ
  done_count h = count_below (is_done h) (arrivals h)

  abbrev Counted : Entry → Type 0
  Counted e = one_if (is_some (command_done past e)) + done_count past ≤ done_count (e ∷ past)

  as_before : (n m : ℕ) → n ≡ m → 0 + n ≤ m
  as_before n m same = omega (arith, same)

  done_later : (w r x : ℕ) (v : Verdict) → is_done past x ≡ true → is_done (Admit w r v ∷ past) x ≡ true
  done_later w r x v was =
      let parts = and_parts (is_some (command_in (call_of past x))) (is_some (admitted past x)) was in
      ap₂ (λ a b. a && b) parts.0 (cond_both (r == x) (Some v) (admitted past x) (λ o. is_some o ≡ true) (λ _. refl) (λ _. parts.1))

  counted_admit : (w r : ℕ) (v : Verdict) → IsAdmission c run past w r v → Counted (Admit w r v)
  counted_admit w r v admission =
      elim (cases_Bool (is_some (command_done past (Admit w r v)))) [
        | inr none ↦
            subst (λ b. one_if b + done_count past ≤ done_count (Admit w r v ∷ past)) (sym none)
            (let more = count_more (is_done past) (is_done (Admit w r v ∷ past)) (arrivals past) (λ x _. done_later w r x v) in omega (arith, more))
        | inl some_ ↦ subst (λ b. one_if b + done_count past ≤ done_count (Admit w r v ∷ past)) (sym some_)
            (let more : done_count past + 1 ≤ done_count (Admit w r v ∷ past) =
            count_one_more (is_done past) (is_done (Admit w r v ∷ past)) (arrivals past) r admission.arrived (undone r admission.unadmitted)
            (done_now (command_some some_)) (λ x _. done_later w r x v) in omega (arith, more))
      ]
    where
      undone : (x : ℕ) → is_unadmitted past x ≡ true → is_done past x ≡ false
      undone x free =
          false_from_ne_true (is_done past x)
          (λ was. some_none (admitted past x) (and_parts (is_some (command_in (call_of past x))) (is_some (admitted past x)) was).1 free)
        where
          some_none : (o : Option Verdict) → is_some o ≡ true → is_none o ≡ true → ⊥
          some_none None one two = (let e : false ≡ true = one in cc)
          some_none (Some v) one two = (let e : false ≡ true = two in cc)

      command_some : is_some (command_done past (Admit w r v)) ≡ true → is_some (command_in (call_of past r)) ≡ true
      command_some =
          cond_both (is_accepted v) (command_in (call_of past r)) None (λ o. is_some o ≡ true → is_some (command_in (call_of past r)) ≡ true) (λ _ is. is)
          (λ _ is. absurd (let e : false ≡ true = is in cc))

      done_now : is_some (command_in (call_of past r)) ≡ true → is_done (Admit w r v ∷ past) r ≡ true
      done_now is = ap₂ (λ a b. a && b) is (ap (λ b. is_some (if b then Some v else admitted past r)) (eq-eqb r r refl))

  counted_yes : (w k : ℕ) → AreMessages c run past → IsTrial c run past w (Yes k) → Counted (Tried w (Yes k))
  counted_yes w k messages trial =
      (let more = count_more (is_done past) (is_done (Tried w (Yes k) ∷ past)) (arrivals past) (λ x _. still x) in omega (arith, more))
    where
      no_line : command_in (call_of past trial.arrival) ≡ None
      no_line = (let f = tried_flies trial.arrival k trial.told in ap (λ r. command_in (call_of past r)) (sym f.2) ∙ (messages f.0 f.1).message)

      by_stage : (x : ℕ) (begun : Stage) → begun ≡ Trying trial.arrival → is_done past x ≡ true
          → is_some (if is_at x (arrival_in begun) then None else admitted past x) ≡ true
      by_stage x begun at was =
          subst (λ b. is_some (if is_at x (arrival_in b) then None else admitted past x) ≡ true) (sym at)
          (let parts = and_parts (is_some (command_in (call_of past x))) (is_some (admitted past x)) was in
          cond_both (trial.arrival == x) None (admitted past x) (λ o. is_some o ≡ true)
          (λ same. absurd (let at_x : trial.arrival ≡ x = eqb-true trial.arrival x same in
          let e : false ≡ true = ap is_some (sym (ap (λ r. command_in (call_of past r)) (sym at_x) ∙ no_line)) ∙ parts.0 in cc))
          (λ _. parts.1))

      still : (x : ℕ) → is_done past x ≡ true → is_done (Tried w (Yes k) ∷ past) x ≡ true
      still x was =
          ap₂ (λ a b. a && b) (and_parts (is_some (command_in (call_of past x))) (is_some (admitted past x)) was).0 (by_stage x (stage past w) trial.begun was)

  counted_arrive : (conn size : ℕ) (call : Call) → Counted (Arrive conn size call)
  counted_arrive conn size call =
      (let more : done_count past ≤ count_below (is_done (Arrive conn size call ∷ past)) (arrivals past) =
      count_more (is_done past) (is_done (Arrive conn size call ∷ past)) (arrivals past)
      (λ x less was. ap (λ o. is_some (command_in o) && is_some (admitted past x)) (call_kept (Arrive conn size call) past x less) ∙ was) in
      cond_both (is_done (Arrive conn size call ∷ past) (arrivals past)) 1 0
      (λ n. 0 + done_count past ≤ count_below (is_done (Arrive conn size call ∷ past)) (arrivals past) + n) (λ _. omega (arith, more))
      (λ _. omega (arith, more)))

  counted : (e : Entry) → MayFollow c run limit past e → AreMessages c run past → Counted e
  counted (Entered conn) may messages = as_before (done_count past) (done_count (Entered conn ∷ past)) refl
  counted (Arrive conn size call) may messages = counted_arrive conn size call
  counted (Filled conn size) may messages = as_before (done_count past) (done_count (Filled conn size ∷ past)) refl
  counted (Left conn) may messages = as_before (done_count past) (done_count (Left conn ∷ past)) refl
  counted (Collect conn a) may messages = as_before (done_count past) (done_count (Collect conn a ∷ past)) refl
  counted (Admit w r v) may messages = counted_admit w r v (admission_is c run past w r v may)
  counted (Tried w (Yes k)) may messages = counted_yes w k messages (trial_is c run past w (Yes k) may)
  counted (Tried w No) may messages = as_before (done_count past) (done_count (Tried w No ∷ past)) refl
  counted (Tried w Raised) may messages = as_before (done_count past) (done_count (Tried w Raised ∷ past)) refl
  counted (Tried w ParentDying) may messages = as_before (done_count past) (done_count (Tried w ParentDying ∷ past)) refl
  counted (Incarnated w a) may messages = as_before (done_count past) (done_count (Incarnated w a ∷ past)) refl
  counted (Run w) may messages = as_before (done_count past) (done_count (Run w ∷ past)) refl
  counted (Done w) may messages = as_before (done_count past) (done_count (Done w ∷ past)) refl
  counted (TakeOut w n x) may messages = as_before (done_count past) (done_count (TakeOut w n x ∷ past)) refl
  counted (Etherealized w x y) may messages = as_before (done_count past) (done_count (Etherealized w x y ∷ past)) refl
  counted (Abandon w) may messages = as_before (done_count past) (done_count (Abandon w ∷ past)) refl

-- how many ids an entry makes
module _ (c : Config) (run : ℕ) where
  same_made : (n : ℕ) → n ≤ n + 0
  same_made n = omega arith

  no_more : (n : ℕ) → n ≤ n + 1
  no_more n = omega arith

  made_reference : (p : List (List ℕ)) (servant : List ℕ) (s : Standing) → (with_reference c run p servant s).made ≤ s.made + 1
  made_reference p servant s =
      elim (live_at s p) as (λ o. made_in
      (elim o [
        | Some n ↦
            (elim (servant_number c servant) [ Some k ↦ (if is_implicit c s n k then with_made_activation c run p servant s else s) | None ↦ s ])
        | None ↦ s
      ]) ≤ s.made + 1) [
        | Some n ↦ elim (servant_number c servant) as (λ o. made_in (elim o [
          | Some k ↦
              (if is_implicit c s n k then with_made_activation c run p servant s else s)
          | None ↦ s
        ]) ≤ s.made + 1) [
          | Some k ↦
              cond_both (is_implicit c s n k) (with_made_activation c run p servant s) s (λ t. t.made ≤ s.made + 1) (λ _. omega arith) (λ _. no_more s.made)
          | None ↦ no_more s.made
        ]
        | None ↦ no_more s.made
      ]

  made_command : (command : Option Command) (s : Standing) → (with_command c run command s).made ≤ s.made + one_if (is_some command)
  made_command None s = same_made s.made
  made_command (Some (Manager name ActivateAll)) s = no_more s.made
  made_command (Some (Manager name (Hold wait))) s = no_more s.made
  made_command (Some (Manager name (Discard wait))) s = no_more s.made
  made_command (Some (Manager name (DeactivateAll true wait))) s =
      elim (manager_number c name) as (λ o. made_in (elim o [ Some m ↦ with_manager_off c m s | None ↦ s ]) ≤ s.made + 1)
      [ Some m ↦ no_more s.made | None ↦ no_more s.made ]
  made_command (Some (Manager name (DeactivateAll false wait))) s = no_more s.made
  made_command (Some (Create p)) s = no_more s.made
  made_command (Some (Destroy p etherealize wait)) s = no_more s.made
  made_command (Some (Activate p servant)) s = (let e : (with_made_activation c run p servant s).made ≡ suc s.made = refl in omega (arith, e))
  made_command (Some (ActivateId p oid servant)) s = no_more s.made
  made_command (Some (Deactivate p oid)) s = no_more s.made
  made_command (Some (Reference p servant)) s = made_reference p servant s
  made_command (Some (PresetLine p servant)) s = no_more s.made
  made_command (Some (ForwardLine p endpoint)) s = no_more s.made
  made_command (Some (Unforward p)) s = no_more s.made
  made_command (Some Shutdown) s = no_more s.made
  made_command (Some (Bad word)) s = no_more s.made

  made_admitted : (r : ℕ) (key : Option Key) (v : Verdict) (s : Standing) → (with_admitted r key v s).made ≡ s.made
  made_admitted r None v s = refl
  made_admitted r (Some key) (Serve n) s = refl
  made_admitted r (Some key) (Preset n) s = refl
  made_admitted r (Some key) (Locator n) s = refl
  made_admitted r (Some key) (Incarnate n) s = refl
  made_admitted r (Some key) Try s = refl
  made_admitted r (Some key) (Refuse x) s = refl
  made_admitted r (Some key) (Forward x) s = refl
  made_admitted r (Some key) Addressing s = refl
  made_admitted r (Some key) Here s = refl
  made_admitted r (Some key) Unknown s = refl
  made_admitted r (Some key) (Answer x) s = refl
  made_admitted r (Some key) Wait s = refl

  made_fewer : (r : Option ℕ) (s : Standing) → (without_flight r s).made ≡ s.made
  made_fewer None s = refl
  made_fewer (Some r) s = refl

  made_child : (p : Option (List (List ℕ))) (s : Standing) → (with_child p s).made ≡ s.made
  made_child None s = refl
  made_child (Some p) s = refl

  made_tried : (r : Option ℕ) (answer : Attempt) (s : Standing) → (with_tried r answer s).made ≡ s.made
  made_tried r (Yes n) s = made_child (child_tried s.flights r) (without_flight r s) ∙ made_fewer r s
  made_tried r No s = made_fewer r s
  made_tried r Raised s = made_fewer r s
  made_tried r ParentDying s = made_fewer r s

  made_incarnated : (begun : Stage) (answer : Incarnation) (s : Standing) → (with_incarnated c begun answer s).made ≡ s.made
  made_incarnated (Incarnating r n) (Fresh m) s = refl
  made_incarnated (Incarnating r n) (Named name) s = refl
  made_incarnated (Incarnating r n) Double s = refl
  made_incarnated (Incarnating r n) (ForwardTo endpoint) s = refl
  made_incarnated (Incarnating r n) (Raise exception) s = refl
  made_incarnated Free answer s = refl
  made_incarnated (Trying r) answer s = refl
  made_incarnated (Serving r) answer s = refl
  made_incarnated (Ran r) answer s = refl
  made_incarnated (Removing n) answer s = refl

  made_etherealized : (begun : Stage) (s : Standing) → (with_etherealized begun s).made ≡ s.made
  made_etherealized Free s = refl
  made_etherealized (Trying r) s = refl
  made_etherealized (Incarnating r n) s = refl
  made_etherealized (Serving r) s = refl
  made_etherealized (Ran r) s = refl
  made_etherealized (Removing n) s = refl

  by_same : (n m : ℕ) → n ≡ m → n ≤ m + 0
  by_same n m same = omega (arith, same)

  made_step : (past : List Entry) (e : Entry) (s : Standing) → (changed c run past e s).made ≤ s.made + one_if (is_some (command_done past e))
  made_step past (Entered conn) s = same_made s.made
  made_step past (Arrive conn size call) s = same_made s.made
  made_step past (Filled conn size) s = same_made s.made
  made_step past (Left conn) s = same_made s.made
  made_step past (Collect conn a) s = same_made s.made
  made_step past (Admit w r v) s =
      subst (λ n. (with_command c run (command_done past (Admit w r v)) (with_admitted r (key_in (call_of past r)) v s)).made ≤ n + one_if
      (is_some (command_done past (Admit w r v)))) (made_admitted r (key_in (call_of past r)) v s)
      (made_command (command_done past (Admit w r v)) (with_admitted r (key_in (call_of past r)) v s))
  made_step past (Tried w a) s = by_same _ _ (made_tried (arrival_in (stage past w)) a s)
  made_step past (Incarnated w a) s = by_same _ _ (made_incarnated (stage past w) a s)
  made_step past (Run w) s = same_made s.made
  made_step past (Done w) s = by_same _ _ (made_fewer (arrival_in (stage past w)) s)
  made_step past (TakeOut w n x) s = same_made s.made
  made_step past (Etherealized w x y) s = by_same _ _ (made_etherealized (stage past w) s)
  made_step past (Abandon w) s = same_made s.made

  made_boots : (as' : List AdapterConf) (s : Standing) → (with_boots as' s).made ≡ s.made
  made_boots [] s = refl
  made_boots (a ∷ as') s =
      made_boots as' (if a.boot && not (is_root a.path) then with_node a.path s else s)
      ∙ cond_both (a.boot && not (is_root a.path)) (with_node a.path s) s (λ t. t.made ≡ s.made) (λ _. refl) (λ _. refl)

  made_object : (o : ObjectConf) (s : Standing) → (with_object run o s).made ≤ s.made + 1
  made_object o s =
      elim o.oid as (λ oid. made_in
      (elim oid [
        | Some i ↦ with_activation (number_at s o.adapter) o.adapter i (Complete (NamedServant o.servant)) s
        | None ↦ with_activation (number_at s o.adapter) o.adapter (made_id run (suc s.made)) (Complete (NamedServant o.servant)) (with_made s)
      ]) ≤ s.made + 1)
      [ Some i ↦ no_more s.made | None ↦ omega arith ]

  made_objects : (os : List ObjectConf) (s : Standing) → (with_objects run os s).made ≤ s.made + length os
  made_objects [] s = omega arith
  made_objects (o ∷ os) s = (let one = made_object o s in let more = made_objects os (with_object run o s) in omega (arith, one, more))

  made_opening : (opening c run).made ≤ length c.objects
  made_opening =
      (let all = made_objects c.objects (with_boots c.adapters root_alone) in let none = made_boots c.adapters root_alone in omega (arith, all, none))

module _ (c : Config) (run limit : ℕ) where
  pub messages : (h : List Entry) → IsLegal c run limit h → AreMessages c run h
  messages [] legal = λ f there. absurd (no_flights f there)
    where
      flights_boots : (as' : List AdapterConf) (s : Standing) → (with_boots as' s).flights ≡ s.flights
      flights_boots [] s = refl
      flights_boots (a ∷ as') s =
          flights_boots as' (if a.boot && not (is_root a.path) then with_node a.path s else s)
          ∙ cond_both (a.boot && not (is_root a.path)) (with_node a.path s) s (λ t. t.flights ≡ s.flights) (λ _. refl) (λ _. refl)

      flights_object : (o : ObjectConf) (s : Standing) → (with_object run o s).flights ≡ s.flights
      flights_object o s =
          elim o.oid as (λ oid. flights_in
          (elim oid [
            | Some i ↦ with_activation (number_at s o.adapter) o.adapter i (Complete (NamedServant o.servant)) s
            | None ↦ with_activation (number_at s o.adapter) o.adapter (made_id run (suc s.made)) (Complete (NamedServant o.servant)) (with_made s)
          ]) ≡ s.flights)
          [ Some i ↦ refl | None ↦ refl ]

      flights_objects : (os : List ObjectConf) (s : Standing) → (with_objects run os s).flights ≡ s.flights
      flights_objects [] s = refl
      flights_objects (o ∷ os) s = flights_objects os (with_object run o s) ∙ flights_object o s

      no_flights : (f : Flight) → In f (standing c run []).flights → ⊥
      no_flights f is = subst (λ fs. In f fs) (flights_objects c.objects (with_boots c.adapters root_alone) ∙ flights_boots c.adapters root_alone) is
  messages (e ∷ past) legal = step_messages c run limit past e legal.0 (messages past legal.1)

  made_by_count : (h : List Entry) → IsLegal c run limit h → (standing c run h).made ≤ length c.objects + count_below (is_done h) (arrivals h)
  made_by_count [] legal = (let few = made_opening c run in omega (arith, few))
  made_by_count (e ∷ past) legal =
      (let before = made_by_count past legal.1 in
      let one = made_step c run past e (standing c run past) in
      let more = counted c run limit past e legal.0 (messages past legal.1) in omega (arith, before, one, more))

  arrived_by : (h : List Entry) → IsLegal c run limit h → arrivals h ≤ limit + one_if (had_shutdown h)
  arrived_by [] legal = omega arith
  arrived_by (Arrive conn size call ∷ past) legal =
      (let before = arrived_by past legal.1 in
      let may : MayArrive limit past conn size call = legal.0 in
      elim may.room [
        | inl first ↦ (let none : one_if (had_shutdown past) ≡ 0 = ap one_if first.1 in
            subst (λ b. suc (arrivals past) ≤ limit + one_if b) (sym (or_first (is_shutdown call) (had_shutdown past) first.0)) (omega (arith, before, none)))
        | inr room ↦ (let fewer = room.fewer in omega (arith, fewer))
      ])
  arrived_by (Entered conn ∷ past) legal = arrived_by past legal.1
  arrived_by (Filled conn size ∷ past) legal = arrived_by past legal.1
  arrived_by (Left conn ∷ past) legal = arrived_by past legal.1
  arrived_by (Collect conn a ∷ past) legal = arrived_by past legal.1
  arrived_by (Admit w r v ∷ past) legal = arrived_by past legal.1
  arrived_by (Tried w a ∷ past) legal = arrived_by past legal.1
  arrived_by (Incarnated w a ∷ past) legal = arrived_by past legal.1
  arrived_by (Run w ∷ past) legal = arrived_by past legal.1
  arrived_by (Done w ∷ past) legal = arrived_by past legal.1
  arrived_by (TakeOut w n x ∷ past) legal = arrived_by past legal.1
  arrived_by (Etherealized w x y ∷ past) legal = arrived_by past legal.1
  arrived_by (Abandon w ∷ past) legal = arrived_by past legal.1

  at_most_one : (b : Bool) → one_if b ≤ 1
  at_most_one true = omega arith
  at_most_one false = omega arith

  pub few_ids : (h : List Entry) → IsLegal c run limit h → HasFewIds c run limit h
  few_ids h legal =
      let made = made_by_count h legal in
      let count = count_bound (is_done h) (arrivals h) in
      let arrived = arrived_by h legal in
      let one = at_most_one (had_shutdown h) in
      record { made = omega (arith, made, count); arrived = omega (arith, arrived, one) }

  pub has_ordinal : IsWithinLimits c limit → (h : List Entry) → IsLegal c run limit h → suc (standing c run h).made < 2 ^ 32
  has_ordinal within h legal =
      let few = few_ids h legal in
      let made = few.made in
      let arrived = few.arrived in
      let objects = within.objects in
      let calls = within.arrivals in
      omega (arith, made, arrived, objects, calls)
