-- An activation after an entry is one that was there, or is begun by the entry.
use Rattle.std.specs.Prelude.{◌≡◌, ℕ, suc, Bool, true, false, not, ◌&&◌, ◌==◌, if◌then◌else◌, List, [], ◌∷◌, map, length, Option, Some, None, ◌⊎◌, refl}
use Rattle.std.proofs.Common.{inl, inr, sym, subst, ap, ◌∙◌}
use Rattle.std.proofs.lemmas.Bool.{cond_both, and_parts, or_cases, true≢false, eqb-true}
use Rattle.poa_base.specs.declared.Config.{Config}
use Rattle.poa_base.specs.declared.Key.{Key}
use Rattle.poa_base.specs.declared.Call.{Call}
use Rattle.poa_base.specs.declared.Call.TheVariants.{Request, Locate, Line}
use Rattle.poa_base.specs.declared.Command.{Command}
use Rattle.poa_base.specs.declared.Command.TheVariants.{Manager, Create, Destroy, Activate, ActivateId, Deactivate, Reference, Preset as PresetLine, Forward as ForwardLine, Unforward, Shutdown, Bad}
use Rattle.poa_base.specs.declared.Order.TheVariants.{Activate as ActivateAll, Hold, Discard, Deactivate as DeactivateAll}
use Rattle.poa_base.specs.declared.Sid.TheVariants.{Fresh as FreshServant}
use Rattle.poa_base.specs.declared.Verdict.{Verdict}
use Rattle.poa_base.specs.declared.Verdict.TheVariants.{Serve, Preset, Locator, Incarnate, Try, Refuse, Forward, Addressing, Here, Unknown, Answer, Wait}
use Rattle.poa_base.specs.declared.Entry.{Entry}
use Rattle.poa_base.specs.declared.Entry.TheVariants.{Entered, Arrive, Filled, Left, Collect, Admit, Tried, Incarnated, Run, Done, TakeOut, Etherealized, Abandon}
use Rattle.poa_base.specs.declared.Incarnation.{Incarnation}
use Rattle.poa_base.specs.declared.Incarnation.TheVariants.{Fresh, Named, Double, Forward as ForwardTo, Raise}
use Rattle.history_standing.specs.declared.node.Node.{Node}
use Rattle.history_standing.specs.declared.activation.Activation.{Activation}
use Rattle.history_standing.specs.declared.activation.Phase.{Phase}
use Rattle.history_standing.specs.declared.activation.Phase.TheVariants.{Begun, Complete, Void}
use Rattle.history_standing.specs.declared.stage.Stage.{Stage}
use Rattle.history_standing.specs.declared.stage.Stage.TheVariants.{Free, Trying, Incarnating, Serving, Ran, Removing}
use Rattle.history_standing.specs.Templates.{has_activator, manager_at, manager_number, servant_number}
use Rattle.history_standing.specs.Arrivals.{call_of}
use Rattle.history_standing.specs.Stages.{stage, arrival_in}
use Rattle.history_standing.specs.Standings.{Standing, is_begun, is_complete, is_ending, is_void, is_of, is_used}
use Rattle.history_standing.specs.Nodes.{stands_under}
use Rattle.history_standing.specs.Trees.{In}
use Rattle.history_standing.specs.Walks.{walk, adapter_met}
use Rattle.history_standing.specs.Ends.{is_left, let_out}
use Rattle.history_standing.specs.Keys.{key_in}
use Rattle.history_standing.specs.Logs.{is_accepted, command_in, command_done}
use Rattle.history_standing.specs.Opening.{with_activation, made_id, number_at}
use Rattle.history_standing.specs.Commands.{is_implicit, live_at}
use Rattle.history_standing.specs.Changes.{standing, changed, with_admitted, ended_by_destroy, with_manager_off, servant_of, with_made_activation, with_reference, with_command, at_number, come_to, with_incarnated, is_elsewhere, with_etherealized}
use Rattle.poa_history.specs.Later.{IsLater}
use Rattle.history_standing.proofs.Members.{in_either, in_image}
use Rattle.poa_history.proofs.ActivationsLater.{begun_phase, later_self, later_through, later_ended, later_ending, later_out, later_told, later_come, later_let_out}
use Rattle.poa_history.proofs.Untouched.{activations_in, activations_fewer, activations_tried}
use Rattle.history_standing.proofs.Tests.{not_true}

-- what an activation comes to by the answer of its incarnation
abbrev pub phase_by : Config → ℕ → Incarnation → Phase
phase_by c n (Fresh m) = Complete (FreshServant n)
phase_by c n (Named name) = servant_of c name
phase_by c n answer = Void

module _ (c : Config) (run : ℕ) (past : List Entry) (s : Standing) (e : Entry) where
  -- the entry takes the activation out
  abbrev pub TakesOut : ℕ → Type 0
  TakesOut n = (w : ℕ) × (etherealize : Bool) × (e ≡ TakeOut w n etherealize)

  -- the entry tells that it was etherealized
  abbrev pub Tells : ℕ → Type 0
  Tells n = (w : ℕ) × (cleanup : Bool) × (remaining : Bool) × (e ≡ Etherealized w cleanup remaining) × (stage past w ≡ Removing n)

  -- the entry brings it to this
  pub record Brings (n : ℕ) (phase : Phase) : Type 0 where
    pub worker : ℕ
    pub arrival : ℕ
    pub answer : Incarnation
    pub same : e ≡ Incarnated worker answer
    pub begun : stage past worker ≡ Incarnating arrival n
    pub phase_is : phase_by c n answer ≡ phase

  -- without an activator it leaves the map, as nothing is in flight in it
  abbrev pub Leaves : Activation → Type 0
  Leaves b = (has_activator c b.path ≡ false) × (b.ending ≡ true) × (is_used (changed c run past e s).flights b.number ≡ false) × (is_complete b ≡ true)

  -- the activation is changed by the entry into this
  pub record IsStep (a b : Activation) : Type 0 where
    pub later : IsLater c a b
    pub out_back : b.out ≡ true → (a.out ≡ true) ⊎ (Leaves b ⊎ TakesOut a.number)
    pub quiet_back : b.quiet ≡ true → (a.quiet ≡ true) ⊎ (a.ending ≡ false)
    pub told_back : b.etherealized ≡ true → (a.etherealized ≡ true) ⊎ Tells a.number
    pub came : (b.phase ≡ a.phase) ⊎ ((a.phase ≡ Begun) × Brings a.number b.phase)

  step_flags : (a b : Activation) → IsLater c a b → b.phase ≡ a.phase → b.out ≡ a.out → b.etherealized ≡ a.etherealized
      → (b.quiet ≡ true → (a.quiet ≡ true) ⊎ (a.ending ≡ false)) → IsStep a b
  step_flags a b later phase out told quiet =
      record { later = later; out_back = λ is. inl (sym out ∙ is); quiet_back = quiet; told_back = λ is. inl (sym told ∙ is); came = inl phase }

  step_self : (a : Activation) → IsStep a a
  step_self a = step_flags a a (later_self c a) refl refl refl (λ is. inl is)

  step_ended : (etherealize : Bool) (a : Activation) → IsStep a (ended_by_destroy etherealize a)
  step_ended etherealize a = step_flags a (ended_by_destroy etherealize a) (later_ended c etherealize a) refl refl refl
      (λ is. elim (or_cases a.quiet (not a.ending && not etherealize) is)
      [ inl was ↦ inl was | inr first ↦ inr (not_true a.ending (and_parts (not a.ending) (not etherealize) first).0) ])

  step_ending : (a : Activation) → IsStep a (record a { ending = true })
  step_ending a = step_flags a (record a { ending = true }) (later_ending c a) refl refl refl (λ is. inl is)

  step_out : (a : Activation) (other : Bool) → TakesOut a.number → IsStep a (record a { out = true; remaining = other })
  step_out a other takes =
      record { later = later_out c a other; out_back = λ _. inr (inr takes); quiet_back = λ is. inl is; told_back = λ is. inl is; came = inl refl }

  step_told : (a : Activation) → Tells a.number → IsStep a (record a { etherealized = true })
  step_told a tells = record { later = later_told c a; out_back = λ is. inl is; quiet_back = λ is. inl is; told_back = λ _. inr tells; came = inl refl }

  step_come : (phase : Phase) (a : Activation) → Brings a.number phase → IsStep a (come_to phase a)
  step_come phase a brings =
      cond_both (is_begun a) (record a { phase = phase }) a (λ b. IsLater c a b → IsStep a b)
      (λ begun later. record
      { later = later; out_back = λ is. inl is; quiet_back = λ is. inl is; told_back = λ is. inl is; came = inr (begun_phase a.phase begun, brings) })
      (λ _ _. step_self a) (later_come c phase a)

  step_where : (test : Activation → Bool) (f : Activation → Activation) (a : Activation) → (test a ≡ true → IsStep a (f a))
      → IsStep a (if test a then f a else a)
  step_where test f a kept = cond_both (test a) (f a) a (IsStep a) kept (λ _. step_self a)

  step_let_out : (a b : Activation) → IsStep a b → IsStep a (let_out c (changed c run past e s) b)
  step_let_out a b step =
      cond_both (is_left c (changed c run past e s) b) (record b { out = true }) b (λ d. IsLater c b d → IsStep a d)
      (λ left later. record {
        later = later_through c a b (record b { out = true }) step.later later;
        out_back = λ _. inr (inl (leaves left));
        quiet_back = step.quiet_back;
        told_back = step.told_back;
        came = step.came;
      })
      (λ _ _. step) (later_let_out c (changed c run past e s) b)
    where
      leaves : is_left c (changed c run past e s) b ≡ true → Leaves b
      leaves left =
          let parts =
          and_parts (not (has_activator c b.path)) (is_complete b && (is_ending b && not (is_used (changed c run past e s).flights b.number))) left in
          let ends = and_parts (is_complete b) (is_ending b && not (is_used (changed c run past e s).flights b.number)) parts.1 in
          let unused = and_parts (is_ending b) (not (is_used (changed c run past e s).flights b.number)) ends.1 in (
            not_true (has_activator c b.path) parts.0,
            (and_parts b.ending (not (is_void b)) unused.0).0,
            not_true (is_used (changed c run past e s).flights b.number) unused.1,
            ends.0,
          )

  -- how the entry begins an activation
  pub data BegunBy (b : Activation) : Type 0 where
    incarnating : (w r n : ℕ) (key : Key) → e ≡ Admit w r (Incarnate n) → key_in (call_of past r) ≡ Some key → b.adapter ≡ adapter_met (walk s.nodes key.path)
        → b.path ≡ key.path → b.oid ≡ key.oid → b.phase ≡ Begun → BegunBy b
    activating : (p : List (List ℕ)) (servant : List ℕ) → command_done past e ≡ Some (Activate p servant) → b.adapter ≡ number_at s p → b.path ≡ p
        → b.oid ≡ made_id run (suc s.made) → b.phase ≡ servant_of c servant → BegunBy b
    activating_id : (p : List (List ℕ)) (oid servant : List ℕ) → command_done past e ≡ Some (ActivateId p oid servant) → b.adapter ≡ number_at s p → b.path ≡ p
        → b.oid ≡ oid → b.phase ≡ servant_of c servant → BegunBy b
    referring : (p : List (List ℕ)) (servant : List ℕ) (n : Node) (k : ℕ) → command_done past e ≡ Some (Reference p servant) → live_at s p ≡ Some n
        → servant_number c servant ≡ Some k → is_implicit c s n k ≡ true → b.adapter ≡ number_at s p → b.path ≡ p → b.oid ≡ made_id run (suc s.made)
        → b.phase ≡ servant_of c servant → BegunBy b

  pub record IsBegun (b : Activation) : Type 0 where
    pub number : b.number ≡ length s.activations
    pub ending : b.ending ≡ false
    pub quiet : b.quiet ≡ false
    pub out : b.out ≡ false
    pub etherealized : b.etherealized ≡ false
    pub how : BegunBy b

  pub data ActivationFrom (b : Activation) : Type 0 where
    stood : (a : Activation) → In a s.activations → IsStep a b → ActivationFrom b
    begun : IsBegun b → ActivationFrom b

  mapped_from : (f : Activation → Activation) → ((a : Activation) → IsStep a (f a)) → (b : Activation) → In b (map f s.activations) → ActivationFrom b
  mapped_from f step b there = (let (a, was, same) = in_image f b s.activations there in stood a was (subst (λ x. IsStep a x) (sym same) (step a)))

  as_before : (b : Activation) → In b s.activations → ActivationFrom b
  as_before b there = stood b there (step_self b)

  added : (k : ℕ) (p : List (List ℕ)) (oid : List ℕ) (phase : Phase)
      → ((b : Activation) → b.adapter ≡ k → b.path ≡ p → b.oid ≡ oid → b.phase ≡ phase → BegunBy b) → (b : Activation)
      → In b (with_activation k p oid phase s).activations → ActivationFrom b
  added k p oid phase how b there =
      elim (in_either b
      (record {
        number = length s.activations;
        adapter = k;
        path = p;
        oid = oid;
        phase = phase;
        ending = false;
        quiet = false;
        out = false;
        cleanup = false;
        remaining = false;
        etherealized = false;
      }) s.activations there) [
        | inl was ↦ as_before b was
        | inr same ↦ begun (record {
          number = ap (λ x. x.number) same;
          ending = ap (λ x. x.ending) same;
          quiet = ap (λ x. x.quiet) same;
          out = ap (λ x. x.out) same;
          etherealized = ap (λ x. x.etherealized) same;
          how = how b (ap (λ x. x.adapter) same) (ap (λ x. x.path) same) (ap (λ x. x.oid) same) (ap (λ x. x.phase) same);
        })
      ]

  destroyed_from : (p : List (List ℕ)) (etherealize : Bool) (b : Activation)
      → In b (map (λ a. if stands_under s.nodes p a.adapter then ended_by_destroy etherealize a else a) s.activations) → ActivationFrom b
  destroyed_from p etherealize =
      mapped_from (λ a. if stands_under s.nodes p a.adapter then ended_by_destroy etherealize a else a)
      (λ a. step_where (λ x. stands_under s.nodes p x.adapter) (ended_by_destroy etherealize) a (λ _. step_ended etherealize a))

  off_from : (name : List ℕ) (b : Activation) → In b (activations_in (elim (manager_number c name) [ Some m ↦ with_manager_off c m s | None ↦ s ]))
      → ActivationFrom b
  off_from name b = elim (manager_number c name) as (λ o. In b (activations_in (elim o [ Some m ↦ with_manager_off c m s | None ↦ s ])) → ActivationFrom b) [
    | Some m ↦
        mapped_from (λ a. if has_activator c a.path && (manager_at c a.path == m) then ended_by_destroy true a else a)
        (λ a. step_where (λ x. has_activator c x.path && (manager_at c x.path == m)) (ended_by_destroy true) a (λ _. step_ended true a)) b
    | None ↦ as_before b
  ]

  made_from : (p : List (List ℕ)) (servant : List ℕ)
      → ((b : Activation) → b.adapter ≡ number_at s p → b.path ≡ p → b.oid ≡ made_id run (suc s.made) → b.phase ≡ servant_of c servant → BegunBy b)
      → (b : Activation) → In b (with_made_activation c run p servant s).activations → ActivationFrom b
  made_from p servant how b there = added (number_at s p) p (made_id run (suc s.made)) (servant_of c servant) how b there

  referred_from : (p : List (List ℕ)) (servant : List ℕ) → command_done past e ≡ Some (Reference p servant) → (b : Activation)
      → In b (with_reference c run p servant s).activations → ActivationFrom b
  referred_from p servant done b =
      elim (live_at s p) as (λ o. live_at s p ≡ o
      → In b (activations_in
      (elim o [
        | Some n ↦
            (elim (servant_number c servant) [ Some k ↦ (if is_implicit c s n k then with_made_activation c run p servant s else s) | None ↦ s ])
        | None ↦ s
      ])) → ActivationFrom b) [
        | Some n ↦ λ lives. elim (servant_number c servant) as (λ o. servant_number c servant ≡ o → In b (activations_in (elim o [
          | Some k ↦ (if is_implicit c s n k then with_made_activation c run p servant s else s)
          | None ↦ s
        ])) → ActivationFrom b) [
          | Some k ↦ λ known. cond_both (is_implicit c s n k) (with_made_activation c run p servant s) s (λ t. In b t.activations → ActivationFrom b)
              (λ implicit. made_from p servant (λ x at placed of_id phase. referring p servant n k done lives known implicit at placed of_id phase) b)
              (λ _. as_before b)
          | None ↦ λ _. as_before b
        ] refl
        | None ↦ λ _. as_before b
      ] refl

  from_command : (command : Option Command) → command_done past e ≡ command → (b : Activation) → In b (with_command c run command s).activations
      → ActivationFrom b
  from_command None done b there = as_before b there
  from_command (Some (Manager name ActivateAll)) done b there = as_before b there
  from_command (Some (Manager name (Hold wait))) done b there = as_before b there
  from_command (Some (Manager name (Discard wait))) done b there = as_before b there
  from_command (Some (Manager name (DeactivateAll true wait))) done b there = off_from name b there
  from_command (Some (Manager name (DeactivateAll false wait))) done b there = as_before b there
  from_command (Some (Create p)) done b there = as_before b there
  from_command (Some (Destroy p etherealize wait)) done b there = destroyed_from p etherealize b there
  from_command (Some (Activate p servant)) done b there =
      made_from p servant (λ x at placed of_id phase. activating p servant done at placed of_id phase) b there
  from_command (Some (ActivateId p oid servant)) done b there =
      added (number_at s p) p oid (servant_of c servant) (λ x at placed of_id phase. activating_id p oid servant done at placed of_id phase) b there
  from_command (Some (Deactivate p oid)) done b there =
      mapped_from (λ a. if is_of (number_at s p) oid a then record a { ending = true } else a)
      (λ a. step_where (is_of (number_at s p) oid) (λ x. record x { ending = true }) a (λ _. step_ending a)) b there
  from_command (Some (Reference p servant)) done b there = referred_from p servant done b there
  from_command (Some (PresetLine p servant)) done b there = as_before b there
  from_command (Some (ForwardLine p endpoint)) done b there = as_before b there
  from_command (Some (Unforward p)) done b there = as_before b there
  from_command (Some Shutdown) done b there = destroyed_from [] true b there
  from_command (Some (Bad word)) done b there = as_before b there

  from_admitted : (w r : ℕ) (key : Option Key) (v : Verdict) → e ≡ Admit w r v → key_in (call_of past r) ≡ key → (b : Activation)
      → In b (with_admitted r key v s).activations → ActivationFrom b
  from_admitted w r None v is has b there = as_before b there
  from_admitted w r (Some key) (Serve n) is has b there = as_before b there
  from_admitted w r (Some key) (Preset n) is has b there = as_before b there
  from_admitted w r (Some key) (Locator n) is has b there = as_before b there
  from_admitted w r (Some key) (Incarnate n) is has b there =
      added (adapter_met (walk s.nodes key.path)) key.path key.oid Begun (λ x at placed of_id phase. incarnating w r n key is has at placed of_id phase) b there
  from_admitted w r (Some key) Try is has b there = as_before b there
  from_admitted w r (Some key) (Refuse x) is has b there = as_before b there
  from_admitted w r (Some key) (Forward x) is has b there = as_before b there
  from_admitted w r (Some key) Addressing is has b there = as_before b there
  from_admitted w r (Some key) Here is has b there = as_before b there
  from_admitted w r (Some key) Unknown is has b there = as_before b there
  from_admitted w r (Some key) (Answer x) is has b there = as_before b there
  from_admitted w r (Some key) Wait is has b there = as_before b there

  come_from : (w r n : ℕ) (answer : Incarnation) (phase : Phase) → e ≡ Incarnated w answer → stage past w ≡ Incarnating r n → phase_by c n answer ≡ phase
      → (b : Activation) → In b (map (at_number n (come_to phase)) s.activations) → ActivationFrom b
  come_from w r n answer phase is at comes =
      mapped_from (at_number n (come_to phase))
      (λ a. step_where (λ x. x.number == n) (come_to phase) a
      (λ same. step_come phase a
      (subst (λ m. Brings m phase) (sym (eqb-true a.number n same))
      (record { worker = w; arrival = r; answer = answer; same = is; begun = at; phase_is = comes }))))

  from_incarnated : (w : ℕ) (begun_ : Stage) (answer : Incarnation) → e ≡ Incarnated w answer → stage past w ≡ begun_ → (b : Activation)
      → In b (with_incarnated c begun_ answer s).activations → ActivationFrom b
  from_incarnated w (Incarnating r n) (Fresh m) is at b there = come_from w r n (Fresh m) (Complete (FreshServant n)) is at refl b there
  from_incarnated w (Incarnating r n) (Named name) is at b there = come_from w r n (Named name) (servant_of c name) is at refl b there
  from_incarnated w (Incarnating r n) Double is at b there = come_from w r n Double Void is at refl b there
  from_incarnated w (Incarnating r n) (ForwardTo endpoint) is at b there = come_from w r n (ForwardTo endpoint) Void is at refl b there
  from_incarnated w (Incarnating r n) (Raise exception) is at b there = come_from w r n (Raise exception) Void is at refl b there
  from_incarnated w Free answer is at b there = as_before b there
  from_incarnated w (Trying r) answer is at b there = as_before b there
  from_incarnated w (Serving r) answer is at b there = as_before b there
  from_incarnated w (Ran r) answer is at b there = as_before b there
  from_incarnated w (Removing n) answer is at b there = as_before b there

  from_etherealized : (w : ℕ) (cleanup remaining : Bool) (begun_ : Stage) → e ≡ Etherealized w cleanup remaining → stage past w ≡ begun_ → (b : Activation)
      → In b (with_etherealized begun_ s).activations → ActivationFrom b
  from_etherealized w cleanup remaining Free is at b there = as_before b there
  from_etherealized w cleanup remaining (Trying r) is at b there = as_before b there
  from_etherealized w cleanup remaining (Incarnating r n) is at b there = as_before b there
  from_etherealized w cleanup remaining (Serving r) is at b there = as_before b there
  from_etherealized w cleanup remaining (Ran r) is at b there = as_before b there
  from_etherealized w cleanup remaining (Removing n) is at b there =
      mapped_from (at_number n (λ a. record a { etherealized = true }))
      (λ a. step_where (λ x. x.number == n) (λ x. record x { etherealized = true }) a
      (λ same. step_told a (subst Tells (sym (eqb-true a.number n same)) (w, cleanup, remaining, is, at)))) b there

  -- before what has ended goes
  pub from_changed : (f : Entry) → e ≡ f → (b : Activation) → In b (changed c run past f s).activations → ActivationFrom b
  from_changed (Entered conn) is b there = as_before b there
  from_changed (Arrive conn size call) is b there = as_before b there
  from_changed (Filled conn size) is b there = as_before b there
  from_changed (Left conn) is b there = as_before b there
  from_changed (Collect conn a) is b there = as_before b there
  from_changed (Admit w r v) is b there = by_call (call_of past r) refl there
    where
      no_command : (call : Option Call) → call_of past r ≡ call → command_in call ≡ None → command_done past (Admit w r v) ≡ None
      no_command call at none = cond_both (is_accepted v) (command_in (call_of past r)) None (λ o. o ≡ None) (λ _. ap command_in at ∙ none) (λ _. refl)

      message : (call : Option Call) → call_of past r ≡ call → command_in call ≡ None
          → In b (with_command c run (command_done past (Admit w r v)) (with_admitted r (key_in (call_of past r)) v s)).activations → ActivationFrom b
      message call at none there' =
          from_admitted w r (key_in (call_of past r)) v is refl b
          (subst (λ d. In b (with_command c run d (with_admitted r (key_in (call_of past r)) v s)).activations) (no_command call at none) there')

      line : (call : Option Call) → call_of past r ≡ call → key_in call ≡ None
          → In b (with_command c run (command_done past (Admit w r v)) (with_admitted r (key_in (call_of past r)) v s)).activations → ActivationFrom b
      line call at none there' =
          from_command (command_done past (Admit w r v)) (ap (command_done past) is) b
          (subst (λ k. In b (with_command c run (command_done past (Admit w r v)) (with_admitted r k v s)).activations) (ap key_in at ∙ none) there')

      by_call : (call : Option Call) → call_of past r ≡ call
          → In b (with_command c run (command_done past (Admit w r v)) (with_admitted r (key_in (call_of past r)) v s)).activations → ActivationFrom b
      by_call None at = message None at refl
      by_call (Some (Request head target operation body)) at = message (Some (Request head target operation body)) at refl
      by_call (Some (Locate head target)) at = message (Some (Locate head target)) at refl
      by_call (Some (Line number command)) at = line (Some (Line number command)) at refl
  from_changed (Tried w answer) is b there = as_before b (subst (λ as'. In b as') (activations_tried s (arrival_in (stage past w)) answer) there)
  from_changed (Incarnated w answer) is b there = from_incarnated w (stage past w) answer is refl b there
  from_changed (Run w) is b there = as_before b there
  from_changed (Done w) is b there = as_before b (subst (λ as'. In b as') (activations_fewer s (arrival_in (stage past w))) there)
  from_changed (TakeOut w n etherealize) is b there =
      mapped_from (at_number n (λ a. record a { out = true; remaining = is_elsewhere s.activations a }))
      (λ a. step_where (λ x. x.number == n) (λ x. record x { out = true; remaining = is_elsewhere s.activations x }) a
      (λ same. step_out a (is_elsewhere s.activations a) (w, etherealize, is ∙ ap (λ m. TakeOut w m etherealize) (sym (eqb-true a.number n same))))) b there
  from_changed (Etherealized w cleanup remaining) is b there = from_etherealized w cleanup remaining (stage past w) is refl b there
  from_changed (Abandon w) is b there = as_before b there

-- after what has ended went
pub activation_from : (c : Config) (run : ℕ) (past : List Entry) (e : Entry) (b : Activation) → In b (standing c run (e ∷ past)).activations
    → ActivationFrom c run past (standing c run past) e b
activation_from c run past e b there =
    let t : Standing = changed c run past e (standing c run past) in
    let (d, was, same) = in_image (let_out c t) b t.activations there in
    elim (from_changed c run past (standing c run past) e e refl d was) [
      | stood a is step ↦
          stood a is (subst (λ x. IsStep c run past (standing c run past) e a x) (sym same) (step_let_out c run past (standing c run past) e a d step))
      | begun new ↦ begun (subst (λ x. IsBegun c run past (standing c run past) e x) (sym (same ∙ stays t d new.ending)) new)
    ]
  where
    stays : (t : Standing) (d : Activation) → d.ending ≡ false → let_out c t d ≡ d
    stays t d living =
        cond_both (is_left c t d) (record d { out = true }) d (λ x. x ≡ d)
        (λ left. absurd
        (let ends =
        and_parts (is_complete d) (is_ending d && not (is_used t.flights d.number))
        (and_parts (not (has_activator c d.path)) (is_complete d && (is_ending d && not (is_used t.flights d.number))) left).1 in
        let ending = and_parts (is_ending d) (not (is_used t.flights d.number)) ends.1 in
        true≢false (sym (and_parts d.ending (not (is_void d)) ending.0).0 ∙ living)))
        (λ _. refl)
