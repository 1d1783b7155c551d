-- No entry takes back how far an activation came.
use Rattle.std.specs.Prelude.{◌≡◌, ℕ, suc, Bool, true, false, not, ◌&&◌, ◌||◌, ◌==◌, if◌then◌else◌, List, [], ◌∷◌, ◌++◌, length, Option, Some, None, refl}
use Rattle.std.proofs.Common.{inl, inr, sym, ap, ap₂, ◌∙◌}
use Rattle.std.proofs.lemmas.Bool.{cond_both, and_parts, or_cases}
use Rattle.poa_base.specs.declared.Config.{Config}
use Rattle.poa_base.specs.declared.Key.{Key}
use Rattle.poa_base.specs.declared.Command.{Command}
use Rattle.poa_base.specs.declared.Command.TheVariants.{Manager, Create, Destroy, Activate, ActivateId, Deactivate, Reference, Preset as PresetLine, Forward as ForwardLine, Unforward, Shutdown, Bad}
use Rattle.poa_base.specs.declared.Order.TheVariants.{Activate as ActivateAll, Hold, Discard, Deactivate as DeactivateAll}
use Rattle.poa_base.specs.declared.Sid.TheVariants.{Fresh as FreshServant}
use Rattle.poa_base.specs.declared.Verdict.{Verdict}
use Rattle.poa_base.specs.declared.Verdict.TheVariants.{Serve, Preset, Locator, Incarnate, Try, Refuse, Forward, Addressing, Here, Unknown, Answer, Wait}
use Rattle.poa_base.specs.declared.Entry.{Entry}
use Rattle.poa_base.specs.declared.Entry.TheVariants.{Entered, Arrive, Filled, Left, Collect, Admit, Tried, Incarnated, Run, Done, TakeOut, Etherealized, Abandon}
use Rattle.poa_base.specs.declared.Attempt.{Attempt}
use Rattle.poa_base.specs.declared.Attempt.TheVariants.{Yes, No, Raised, Dying as ParentDying}
use Rattle.poa_base.specs.declared.Incarnation.{Incarnation}
use Rattle.poa_base.specs.declared.Incarnation.TheVariants.{Fresh, Named, Double, Forward as ForwardTo, Raise}
use Rattle.history_standing.specs.declared.activation.Activation.{Activation}
use Rattle.history_standing.specs.declared.activation.Phase.{Phase}
use Rattle.history_standing.specs.declared.activation.Phase.TheVariants.{Begun, Complete, Void}
use Rattle.history_standing.specs.declared.stage.Stage.{Stage}
use Rattle.history_standing.specs.declared.stage.Stage.TheVariants.{Free, Trying, Incarnating, Serving, Ran, Removing}
use Rattle.history_standing.specs.Templates.{has_activator, manager_at, manager_number, servant_number}
use Rattle.history_standing.specs.Arrivals.{call_of}
use Rattle.history_standing.specs.Stages.{stage, arrival_in}
use Rattle.history_standing.specs.Standings.{Standing, is_begun, is_of}
use Rattle.history_standing.specs.Nodes.{stands_under}
use Rattle.history_standing.specs.Ends.{is_finished, is_left, let_out, settled}
use Rattle.history_standing.specs.Keys.{key_in}
use Rattle.history_standing.specs.Logs.{command_done}
use Rattle.history_standing.specs.Opening.{with_activation, made_id, number_at, with_made}
use Rattle.history_standing.specs.Commands.{is_implicit, live_at}
use Rattle.history_standing.specs.Changes.{standing, changed, with_activations, with_request, with_admitted, ended_by_destroy, with_destroyed, with_manager_off, servant_of, with_made_activation, with_reference, with_command, child_tried, with_child, without_flight, with_tried, at_number, come_to, with_incarnated, is_elsewhere, with_etherealized}
use Rattle.poa_history.specs.Later.{IsLater, AllLater}
use Rattle.history_standing.proofs.Members.{in_front, image_in}
use Rattle.poa_history.proofs.SettledKept.{or_first, or_second}

-- an activation that is being incarnated
pub begun_phase : (p : Phase) → (elim p [ Begun ↦ true | Complete s ↦ false | Void ↦ false ]) ≡ true → p ≡ Begun
begun_phase Begun is = refl
begun_phase (Complete s) is = absurd (let e : false ≡ true = is in cc)
begun_phase Void is = absurd (let e : false ≡ true = is in cc)

module _ (c : Config) where
  finished_by : (a b : Activation) → b.path ≡ a.path → (a.out ≡ true → b.out ≡ true) → (a.quiet ≡ true → b.quiet ≡ true)
      → (a.etherealized ≡ true → b.etherealized ≡ true) → is_finished c a ≡ true → is_finished c b ≡ true
  finished_by a b path out quiet told finished =
      let parts = and_parts a.out (a.quiet || (not (has_activator c a.path) || a.etherealized)) finished in
      ap₂ (λ x y. x && y) (out parts.0)
      (elim (or_cases a.quiet (not (has_activator c a.path) || a.etherealized) parts.1) [
        | inl q ↦ or_first b.quiet (not (has_activator c b.path) || b.etherealized) (quiet q)
        | inr more ↦ or_second b.quiet (not (has_activator c b.path) || b.etherealized)
            (elim (or_cases (not (has_activator c a.path)) a.etherealized more) [
              | inl none ↦ or_first (not (has_activator c b.path)) b.etherealized (ap (λ p. not (has_activator c p)) path ∙ none)
              | inr t ↦ or_second (not (has_activator c b.path)) b.etherealized (told t)
            ])
      ])

  pub later_self : (a : Activation) → IsLater c a a
  later_self a =
      record {
        number = refl;
        adapter = refl;
        path = refl;
        oid = refl;
        served = λ s is. is;
        void = λ is. is;
        ending = λ is. is;
        quiet = λ is. is;
        out = λ is. is;
        etherealized = λ is. is;
        finished = λ is. is;
      }

  pub later_through : (a b d : Activation) → IsLater c a b → IsLater c b d → IsLater c a d
  later_through a b d one two = record {
    number = two.number ∙ one.number;
    adapter = two.adapter ∙ one.adapter;
    path = two.path ∙ one.path;
    oid = two.oid ∙ one.oid;
    served = λ s is. two.served s (one.served s is);
    void = λ is. two.void (one.void is);
    ending = λ is. two.ending (one.ending is);
    quiet = λ is. two.quiet (one.quiet is);
    out = λ is. two.out (one.out is);
    etherealized = λ is. two.etherealized (one.etherealized is);
    finished = λ is. two.finished (one.finished is);
  }

  pub later_ended : (etherealize : Bool) (a : Activation) → IsLater c a (ended_by_destroy etherealize a)
  later_ended etherealize a =
      let quiet_kept : a.quiet ≡ true → (a.quiet || (not a.ending && not etherealize)) ≡ true = or_first a.quiet (not a.ending && not etherealize) in
      record {
        number = refl;
        adapter = refl;
        path = refl;
        oid = refl;
        served = λ s is. is;
        void = λ is. is;
        ending = λ _. refl;
        quiet = quiet_kept;
        out = λ is. is;
        etherealized = λ is. is;
        finished = finished_by a (ended_by_destroy etherealize a) refl (λ is. is) quiet_kept (λ is. is);
      }

  pub later_ending : (a : Activation) → IsLater c a (record a { ending = true })
  later_ending a =
      record {
        number = refl;
        adapter = refl;
        path = refl;
        oid = refl;
        served = λ s is. is;
        void = λ is. is;
        ending = λ _. refl;
        quiet = λ is. is;
        out = λ is. is;
        etherealized = λ is. is;
        finished = λ is. is;
      }

  pub later_out : (a : Activation) (other : Bool) → IsLater c a (record a { out = true; remaining = other })
  later_out a other =
      record {
        number = refl;
        adapter = refl;
        path = refl;
        oid = refl;
        served = λ s is. is;
        void = λ is. is;
        ending = λ is. is;
        quiet = λ is. is;
        out = λ _. refl;
        etherealized = λ is. is;
        finished = finished_by a (record a { out = true; remaining = other }) refl (λ _. refl) (λ is. is) (λ is. is);
      }

  pub later_told : (a : Activation) → IsLater c a (record a { etherealized = true })
  later_told a =
      record {
        number = refl;
        adapter = refl;
        path = refl;
        oid = refl;
        served = λ s is. is;
        void = λ is. is;
        ending = λ is. is;
        quiet = λ is. is;
        out = λ is. is;
        etherealized = λ _. refl;
        finished = finished_by a (record a { etherealized = true }) refl (λ is. is) (λ is. is) (λ _. refl);
      }

  pub later_come : (phase : Phase) (a : Activation) → IsLater c a (come_to phase a)
  later_come phase a =
      cond_both (is_begun a) (record a { phase = phase }) a (IsLater c a)
      (λ begun. (let at : a.phase ≡ Begun = begun_phase a.phase begun in record {
        number = refl;
        adapter = refl;
        path = refl;
        oid = refl;
        served = λ s is. absurd (let e : Begun ≡ Complete s = sym at ∙ is in cc);
        void = λ is. absurd (let e : Begun ≡ Void = sym at ∙ is in cc);
        ending = λ is. is;
        quiet = λ is. is;
        out = λ is. is;
        etherealized = λ is. is;
        finished = λ is. is;
      }))
      (λ _. later_self a)

  pub later_let_out : (s : Standing) (a : Activation) → IsLater c a (let_out c s a)
  later_let_out s a = cond_both (is_left c s a) (record a { out = true }) a (IsLater c a) (λ _. later_out a a.remaining) (λ _. later_self a)

  later_where : (test : Activation → Bool) (f : Activation → Activation) → ((a : Activation) → IsLater c a (f a)) → (a : Activation)
      → IsLater c a (if test a then f a else a)
  later_where test f kept a = cond_both (test a) (f a) a (IsLater c a) (λ _. kept a) (λ _. later_self a)

  -- the words by which an entry changes what stands
  pub all_later : (s : Standing) → AllLater c s s
  all_later s a is = (a, is, later_self a)

  pub all_through : (s t u : Standing) → AllLater c s t → AllLater c t u → AllLater c s u
  all_through s t u one two a is = (let b = one a is in let d = two b.0 b.1 in (d.0, d.1, later_through a b.0 d.0 b.2 d.2))

  mapped_later : (s : Standing) (f : Activation → Activation) → ((a : Activation) → IsLater c a (f a)) → AllLater c s (with_activations f s)
  mapped_later s f kept a is = (f a, image_in f a s.activations is, kept a)

  begun_later : (s : Standing) (k : ℕ) (p : List (List ℕ)) (oid : List ℕ) (phase : Phase) → AllLater c s (with_activation k p oid phase s)
  begun_later s k p oid phase a is = (
    a,
    in_front a (record {
      number = length s.activations;
      adapter = k;
      path = p;
      oid = oid;
      phase = phase;
      ending = false;
      quiet = false;
      out = false;
      cleanup = false;
      remaining = false;
      etherealized = false;
    }) s.activations is,
    later_self a,
  )

  destroyed_later : (s : Standing) (p : List (List ℕ)) (etherealize : Bool) → AllLater c s (with_destroyed p etherealize s)
  destroyed_later s p etherealize =
      mapped_later s (λ a. if stands_under s.nodes p a.adapter then ended_by_destroy etherealize a else a)
      (later_where (λ a. stands_under s.nodes p a.adapter) (ended_by_destroy etherealize) (later_ended etherealize))

  made_later : (run : ℕ) (s : Standing) (p : List (List ℕ)) (servant : List ℕ) → AllLater c s (with_made_activation c run p servant s)
  made_later run s p servant = begun_later (with_made s) (number_at s p) p (made_id run (suc s.made)) (servant_of c servant)

  referred_later : (run : ℕ) (s : Standing) (p : List (List ℕ)) (servant : List ℕ) → AllLater c s (with_reference c run p servant s)
  referred_later run s p servant =
      elim (live_at s p) as (λ o. AllLater c s
      (elim o [
        | Some n ↦
            (elim (servant_number c servant) [ Some k ↦ (if is_implicit c s n k then with_made_activation c run p servant s else s) | None ↦ s ])
        | None ↦ s
      ])) [
        | Some n ↦ elim (servant_number c servant) as (λ o. AllLater c s (elim o [
          | Some k ↦
              (if is_implicit c s n k then with_made_activation c run p servant s else s)
          | None ↦ s
        ])) [
          | Some k ↦
              cond_both (is_implicit c s n k) (with_made_activation c run p servant s) s (λ t. AllLater c s t) (λ _. made_later run s p servant)
              (λ _. all_later s)
          | None ↦ all_later s
        ]
        | None ↦ all_later s
      ]

  off_later : (s : Standing) (name : List ℕ) → AllLater c s (elim (manager_number c name) [ Some m ↦ with_manager_off c m s | None ↦ s ])
  off_later s name = elim (manager_number c name) as (λ o. AllLater c s (elim o [ Some m ↦ with_manager_off c m s | None ↦ s ])) [
    | Some m ↦
        mapped_later s (λ a. if has_activator c a.path && (manager_at c a.path == m) then ended_by_destroy true a else a)
        (later_where (λ a. has_activator c a.path && (manager_at c a.path == m)) (ended_by_destroy true) (later_ended true))
    | None ↦ all_later s
  ]

  command_later : (run : ℕ) (s : Standing) (command : Option Command) → AllLater c s (with_command c run command s)
  command_later run s None = all_later s
  command_later run s (Some (Manager name ActivateAll)) = all_later s
  command_later run s (Some (Manager name (Hold wait))) = all_later s
  command_later run s (Some (Manager name (Discard wait))) = all_later s
  command_later run s (Some (Manager name (DeactivateAll true wait))) = off_later s name
  command_later run s (Some (Manager name (DeactivateAll false wait))) = all_later s
  command_later run s (Some (Create p)) = all_later s
  command_later run s (Some (Destroy p etherealize wait)) = destroyed_later s p etherealize
  command_later run s (Some (Activate p servant)) = made_later run s p servant
  command_later run s (Some (ActivateId p oid servant)) = begun_later s (number_at s p) p oid (servant_of c servant)
  command_later run s (Some (Deactivate p oid)) =
      mapped_later s (λ a. if is_of (number_at s p) oid a then record a { ending = true } else a)
      (later_where (is_of (number_at s p) oid) (λ a. record a { ending = true }) later_ending)
  command_later run s (Some (Reference p servant)) = referred_later run s p servant
  command_later run s (Some (PresetLine p servant)) = all_later s
  command_later run s (Some (ForwardLine p endpoint)) = all_later s
  command_later run s (Some (Unforward p)) = all_later s
  command_later run s (Some Shutdown) = destroyed_later s [] true
  command_later run s (Some (Bad word)) = all_later s

  admitted_later : (s : Standing) (r : ℕ) (key : Option Key) (verdict : Verdict) → AllLater c s (with_admitted r key verdict s)
  admitted_later s r (Some key) (Serve n) = all_later s
  admitted_later s r (Some key) (Preset servant) = all_later s
  admitted_later s r (Some key) (Locator servant) = all_later s
  admitted_later s r (Some key) (Incarnate n) = begun_later (with_request r key (Some (length s.activations)) s) _ key.path key.oid Begun
  admitted_later s r (Some key) Try = all_later s
  admitted_later s r (Some key) (Refuse e) = all_later s
  admitted_later s r (Some key) (Forward e) = all_later s
  admitted_later s r (Some key) Addressing = all_later s
  admitted_later s r (Some key) Here = all_later s
  admitted_later s r (Some key) Unknown = all_later s
  admitted_later s r (Some key) (Answer a) = all_later s
  admitted_later s r (Some key) Wait = all_later s
  admitted_later s r None verdict = all_later s

  fewer_later : (s : Standing) (r : Option ℕ) → AllLater c s (without_flight r s)
  fewer_later s None = all_later s
  fewer_later s (Some r) = all_later s

  child_later : (s : Standing) (p : Option (List (List ℕ))) → AllLater c s (with_child p s)
  child_later s None = all_later s
  child_later s (Some p) = all_later s

  tried_later : (s : Standing) (r : Option ℕ) (answer : Attempt) → AllLater c s (with_tried r answer s)
  tried_later s r (Yes n) =
      all_through s (without_flight r s) (with_child (child_tried s.flights r) (without_flight r s)) (fewer_later s r)
      (child_later (without_flight r s) (child_tried s.flights r))
  tried_later s r No = fewer_later s r
  tried_later s r Raised = fewer_later s r
  tried_later s r ParentDying = fewer_later s r

  numbered_later : (s : Standing) (n : ℕ) (f : Activation → Activation) → ((a : Activation) → IsLater c a (f a))
      → AllLater c s (with_activations (at_number n f) s)
  numbered_later s n f kept = mapped_later s (at_number n f) (later_where (λ a. a.number == n) f kept)

  incarnated_later : (s : Standing) (begun : Stage) (answer : Incarnation) → AllLater c s (with_incarnated c begun answer s)
  incarnated_later s (Incarnating r n) (Fresh m) = numbered_later s n (come_to (Complete (FreshServant n))) (later_come (Complete (FreshServant n)))
  incarnated_later s (Incarnating r n) (Named name) = numbered_later s n (come_to (servant_of c name)) (later_come (servant_of c name))
  incarnated_later s (Incarnating r n) Double = numbered_later s n (come_to Void) (later_come Void)
  incarnated_later s (Incarnating r n) (ForwardTo endpoint) = numbered_later s n (come_to Void) (later_come Void)
  incarnated_later s (Incarnating r n) (Raise exception) = numbered_later s n (come_to Void) (later_come Void)
  incarnated_later s Free answer = all_later s
  incarnated_later s (Trying r) answer = all_later s
  incarnated_later s (Serving r) answer = all_later s
  incarnated_later s (Ran r) answer = all_later s
  incarnated_later s (Removing n) answer = all_later s

  etherealized_later : (s : Standing) (begun : Stage) → AllLater c s (with_etherealized begun s)
  etherealized_later s Free = all_later s
  etherealized_later s (Trying r) = all_later s
  etherealized_later s (Incarnating r n) = all_later s
  etherealized_later s (Serving r) = all_later s
  etherealized_later s (Ran r) = all_later s
  etherealized_later s (Removing n) = numbered_later s n (λ a. record a { etherealized = true }) later_told

  changed_later : (run : ℕ) (past : List Entry) (s : Standing) (e : Entry) → AllLater c s (changed c run past e s)
  changed_later run past s (Entered conn) = all_later s
  changed_later run past s (Arrive conn size call) = all_later s
  changed_later run past s (Filled conn size) = all_later s
  changed_later run past s (Left conn) = all_later s
  changed_later run past s (Collect conn a) = all_later s
  changed_later run past s (Admit w r verdict) =
      all_through s (with_admitted r (key_in (call_of past r)) verdict s)
      (with_command c run (command_done past (Admit w r verdict)) (with_admitted r (key_in (call_of past r)) verdict s))
      (admitted_later s r (key_in (call_of past r)) verdict)
      (command_later run (with_admitted r (key_in (call_of past r)) verdict s) (command_done past (Admit w r verdict)))
  changed_later run past s (Tried w answer) = tried_later s (arrival_in (stage past w)) answer
  changed_later run past s (Incarnated w answer) = incarnated_later s (stage past w) answer
  changed_later run past s (Run w) = all_later s
  changed_later run past s (Done w) = fewer_later s (arrival_in (stage past w))
  changed_later run past s (TakeOut w n etherealize) =
      numbered_later s n (λ a. record a { out = true; remaining = is_elsewhere s.activations a }) (λ a. later_out a (is_elsewhere s.activations a))
  changed_later run past s (Etherealized w cleanup remaining) = etherealized_later s (stage past w)
  changed_later run past s (Abandon w) = all_later s

  settled_later : (s : Standing) → AllLater c s (settled c s)
  settled_later s = mapped_later s (let_out c s) (later_let_out s)

  pub step_later : (run : ℕ) (past : List Entry) (e : Entry) → AllLater c (standing c run past) (standing c run (e ∷ past))
  step_later run past e =
      all_through (standing c run past) (changed c run past e (standing c run past)) (settled c (changed c run past e (standing c run past)))
      (changed_later run past (standing c run past) e) (settled_later (changed c run past e (standing c run past)))

  pub history_later : (run : ℕ) (past more : List Entry) → AllLater c (standing c run past) (standing c run (more ++ past))
  history_later run past [] = all_later (standing c run past)
  history_later run past (e ∷ more) =
      all_through (standing c run past) (standing c run (more ++ past)) (standing c run (e ∷ (more ++ past))) (history_later run past more)
      (step_later run (more ++ past) e)
