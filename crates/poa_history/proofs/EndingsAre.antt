-- An activation is ending, and quiet, exactly where the commands since its begin say so.
use Rattle.std.specs.Prelude.{◌≡◌, ℕ, suc, ◌≤◌, Bool, true, false, not, ◌&&◌, ◌||◌, ◌==◌, nat_lt, if◌then◌else◌, List, [], ◌∷◌, ◌++◌, map, length, Option, Some, None, refl}
use Rattle.std.proofs.Common.{inl, inr, sym, subst, ap, ap₂, ◌∙◌, arith, length-append}
use Rattle.std.proofs.lemmas.List.{length-map}
use Rattle.std.proofs.lemmas.Bool.{cases_Bool, cond_both, lt-ltb, ltb-true, false_from_ne_true}
use Rattle.poa_base.specs.declared.Config.{Config}
use Rattle.poa_base.specs.declared.Key.{Key}
use Rattle.poa_base.specs.declared.Call.{Call}
use Rattle.poa_base.specs.declared.Call.TheVariants.{Request, Locate, Line}
use Rattle.poa_base.specs.declared.Command.{Command}
use Rattle.poa_base.specs.declared.Command.TheVariants.{Manager, Create, Destroy, Activate, ActivateId, Deactivate, Reference, Preset as PresetLine, Forward as ForwardLine, Unforward, Shutdown, Bad}
use Rattle.poa_base.specs.declared.Order.TheVariants.{Activate as ActivateAll, Hold, Discard, Deactivate as DeactivateAll}
use Rattle.poa_base.specs.declared.Verdict.{Verdict}
use Rattle.poa_base.specs.declared.Verdict.TheVariants.{Serve, Preset, Locator, Incarnate, Try, Refuse, Forward, Addressing, Here, Unknown, Answer, Wait}
use Rattle.poa_base.specs.declared.Entry.{Entry}
use Rattle.poa_base.specs.declared.Entry.TheVariants.{Entered, Arrive, Filled, Left, Collect, Admit, Tried, Incarnated, Run, Done, TakeOut, Etherealized, Abandon}
use Rattle.poa_base.specs.declared.Incarnation.{Incarnation}
use Rattle.poa_base.specs.declared.Incarnation.TheVariants.{Fresh, Named, Double, Forward as ForwardTo, Raise}
use Rattle.history_standing.specs.declared.activation.Activation.{Activation}
use Rattle.history_standing.specs.declared.activation.Phase.{Phase}
use Rattle.history_standing.specs.declared.stage.Stage.{Stage}
use Rattle.history_standing.specs.declared.stage.Stage.TheVariants.{Free, Trying, Incarnating, Serving, Ran, Removing}
use Rattle.history_standing.specs.Nodes.{stands_under}
use Rattle.history_standing.specs.Paths.{same_bytes}
use Rattle.history_standing.specs.Trees.{In}
use Rattle.history_standing.specs.Templates.{has_activator, manager_at, manager_number, servant_number}
use Rattle.history_standing.specs.Arrivals.{call_of}
use Rattle.history_standing.specs.Stages.{stage, arrival_in}
use Rattle.history_standing.specs.Standings.{Standing, is_begun, is_of}
use Rattle.history_standing.specs.Ends.{is_left, let_out}
use Rattle.history_standing.specs.Keys.{key_in}
use Rattle.history_standing.specs.Logs.{is_accepted, command_in, command_done}
use Rattle.history_standing.specs.Opening.{with_activation, made_id, number_at}
use Rattle.history_standing.specs.Commands.{is_implicit, live_at}
use Rattle.history_standing.specs.Changes.{standing, changed, with_admitted, ended_by_destroy, with_manager_off, servant_of, with_made_activation, with_reference, with_command, at_number, come_to, with_incarnated, is_elsewhere, with_etherealized}
use Rattle.poa_history.specs.Legal.{IsLegal}
use Rattle.poa_history.specs.Sound.{IsGiven}
use Rattle.poa_history.specs.Bounds.{IsWithinLimits}
use Rattle.poa_history.specs.Endings.{ends, keeps_servants, is_ended_by, was_ended, was_quieted}
use Rattle.history_standing.proofs.Members.{in_either, in_image}
use Rattle.poa_history.proofs.LivesKept.{as_many, one_more, changed_shape}
use Rattle.poa_history.proofs.AloneKept.{all_open}
use Rattle.poa_history.proofs.LegalSound.{legal_sound}
use Rattle.poa_history.proofs.Untouched.{activations_in, activations_fewer, activations_tried}

-- a test that fails adds nothing
or_none : (q n x k : Bool) → x ≡ false → q ≡ (q || (n && (x && k)))
or_none true n x k none = refl
or_none false true x k none = ap (λ y. y && k) (sym none)
or_none false false x k none = refl

or_kept : (q n x : Bool) → q ≡ (q || (n && (x && false)))
or_kept true n x = refl
or_kept false true true = refl
or_kept false true false = refl
or_kept false false x = refl

module _ (c : Config) (s : Standing) (d : Option Command) where
  -- the activation after the command is this one before it, and its end is told by the command
  pub record EndsAs (a b : Activation) : Type 0 where
    pub number : b.number ≡ a.number
    pub adapter : b.adapter ≡ a.adapter
    pub path : b.path ≡ a.path
    pub oid : b.oid ≡ a.oid
    pub ending : b.ending ≡ (ends c s a d || a.ending)
    pub quiet : b.quiet ≡ (a.quiet || (not a.ending && (ends c s a d && keeps_servants d)))

  pub data EndFrom (b : Activation) : Type 0 where
    was : (a : Activation) → In a s.activations → EndsAs a b → EndFrom b
    fresh : b.number ≡ length s.activations → b.ending ≡ false → b.quiet ≡ false → EndFrom b

  -- what leaves the flags
  as_it_is : (a b : Activation) → ends c s a d ≡ false → b.number ≡ a.number → b.adapter ≡ a.adapter → b.path ≡ a.path → b.oid ≡ a.oid → b.ending ≡ a.ending
      → b.quiet ≡ a.quiet → EndsAs a b
  as_it_is a b none number adapter path oid ending quiet =
      record {
        number = number;
        adapter = adapter;
        path = path;
        oid = oid;
        ending = ending ∙ ap (λ x. x || a.ending) (sym none);
        quiet = quiet ∙ or_none a.quiet (not a.ending) (ends c s a d) (keeps_servants d) none;
      }

  kept : ((a : Activation) → ends c s a d ≡ false) → (b : Activation) → In b s.activations → EndFrom b
  kept none b there = was b there (as_it_is b b (none b) refl refl refl refl refl refl)

  ended_as : (test : Activation → Bool) (etherealize : Bool) → ((a : Activation) → ends c s a d ≡ test a) → keeps_servants d ≡ not etherealize
      → (a : Activation) → EndsAs a (if test a then ended_by_destroy etherealize a else a)
  ended_as test etherealize tells keeps a =
      elim (cases_Bool (test a)) [
        | inl passes ↦ subst (λ b. EndsAs a (if b then ended_by_destroy etherealize a else a)) (sym passes) (record {
          number = refl;
          adapter = refl;
          path = refl;
          oid = refl;
          ending = ap (λ x. x || a.ending) (sym (tells a ∙ passes));
          quiet = ap₂ (λ x k. a.quiet || (not a.ending && (x && k))) (sym (tells a ∙ passes)) (sym keeps);
        })
        | inr fails ↦
            subst (λ b. EndsAs a (if b then ended_by_destroy etherealize a else a)) (sym fails) (as_it_is a a (tells a ∙ fails) refl refl refl refl refl refl)
      ]

  ended_from : (test : Activation → Bool) (etherealize : Bool) → ((a : Activation) → ends c s a d ≡ test a) → keeps_servants d ≡ not etherealize
      → (b : Activation) → In b (map (λ a. if test a then ended_by_destroy etherealize a else a) s.activations) → EndFrom b
  ended_from test etherealize tells keeps b there =
      let found = in_image (λ a. if test a then ended_by_destroy etherealize a else a) b s.activations there in
      was found.0 found.1 (subst (λ x. EndsAs found.0 x) (sym found.2) (ended_as test etherealize tells keeps found.0))

  deactivated_from : (k : ℕ) (oid : List ℕ) → ((a : Activation) → ends c s a d ≡ is_of k oid a) → keeps_servants d ≡ false → (b : Activation)
      → In b (map (λ a. if is_of k oid a then record a { ending = true } else a) s.activations) → EndFrom b
  deactivated_from k oid tells keeps b there =
      let found = in_image (λ a. if is_of k oid a then record a { ending = true } else a) b s.activations there in
      was found.0 found.1 (subst (λ x. EndsAs found.0 x) (sym found.2) (by_test found.0))
    where
      by_test : (a : Activation) → EndsAs a (if is_of k oid a then record a { ending = true } else a)
      by_test a =
          elim (cases_Bool (is_of k oid a)) [
            | inl passes ↦ subst (λ b. EndsAs a (if b then record a { ending = true } else a)) (sym passes) (record {
              number = refl;
              adapter = refl;
              path = refl;
              oid = refl;
              ending = ap (λ x. x || a.ending) (sym (tells a ∙ passes));
              quiet = or_kept a.quiet (not a.ending) (ends c s a d) ∙ ap (λ x. a.quiet || (not a.ending && (ends c s a d && x))) (sym keeps);
            })
            | inr fails ↦
                subst (λ b. EndsAs a (if b then record a { ending = true } else a)) (sym fails) (as_it_is a a (tells a ∙ fails) refl refl refl refl refl refl)
          ]

  added : ((a : Activation) → ends c s a d ≡ false) → (k : ℕ) (p : List (List ℕ)) (oid : List ℕ) (phase : Phase) (b : Activation)
      → In b (with_activation k p oid phase s).activations → EndFrom b
  added none k p oid phase b there =
      elim (in_either b
      (record {
        number = length s.activations;
        adapter = k;
        path = p;
        oid = oid;
        phase = phase;
        ending = false;
        quiet = false;
        out = false;
        cleanup = false;
        remaining = false;
        etherealized = false;
      }) s.activations there)
      [ inl before ↦ kept none b before | inr same ↦ fresh (ap (λ x. x.number) same) (ap (λ x. x.ending) same) (ap (λ x. x.quiet) same) ]

  -- what changes one activation, and none of these flags
  one_from : ((a : Activation) → ends c s a d ≡ false) → (n : ℕ) (f : Activation → Activation)
      → ((a : Activation) → ((f a).number ≡ a.number) × ((f a).adapter ≡ a.adapter) × ((f a).path ≡ a.path) × ((f a).oid ≡ a.oid) × ((f a).ending ≡ a.ending)
      × ((f a).quiet ≡ a.quiet)) → (b : Activation) → In b (map (at_number n f) s.activations) → EndFrom b
  one_from none n f same b there =
      let found = in_image (at_number n f) b s.activations there in
      was found.0 found.1 (subst (λ x. EndsAs found.0 x) (sym found.2)
      (cond_both (found.0.number == n) (f found.0) found.0 (EndsAs found.0)
      (λ _. let k = same found.0 in as_it_is found.0 (f found.0) (none found.0) k.0 k.1 k.2 k.3 k.4 k.5)
      (λ _. as_it_is found.0 found.0 (none found.0) refl refl refl refl refl refl)))

module _ (c : Config) (run : ℕ) (s : Standing) where
  off_from : (name : List ℕ) (wait : Bool) (b : Activation)
      → In b (activations_in (elim (manager_number c name) [ Some m ↦ with_manager_off c m s | None ↦ s ]))
      → EndFrom c s (Some (Manager name (DeactivateAll true wait))) b
  off_from name wait b =
      elim (manager_number c name) as (λ o. manager_number c name ≡ o → In b (activations_in (elim o [ Some m ↦ with_manager_off c m s | None ↦ s ]))
      → EndFrom c s (Some (Manager name (DeactivateAll true wait))) b) [
        | Some m ↦ λ is. ended_from c s (Some (Manager name (DeactivateAll true wait))) (λ a. has_activator c a.path && (manager_at c a.path == m)) true
            (λ a. ap (λ o. elim o as (λ _. Bool) [ Some k ↦ has_activator c a.path && (manager_at c a.path == k) | None ↦ false ]) is) refl b
        | None ↦
            λ none. kept c s (Some (Manager name (DeactivateAll true wait)))
            (λ a. ap (λ o. elim o as (λ _. Bool) [ Some k ↦ has_activator c a.path && (manager_at c a.path == k) | None ↦ false ]) none) b
      ] refl

  reference_from : (p : List (List ℕ)) (servant : List ℕ) (b : Activation) → In b (with_reference c run p servant s).activations
      → EndFrom c s (Some (Reference p servant)) b
  reference_from p servant b =
      elim (live_at s p) as (λ o. In b
      (activations_in
      (elim o [
        | Some n ↦
            (elim (servant_number c servant) [ Some k ↦ (if is_implicit c s n k then with_made_activation c run p servant s else s) | None ↦ s ])
        | None ↦ s
      ])) → EndFrom c s (Some (Reference p servant)) b) [
        | Some n ↦ elim (servant_number c servant) as (λ o. In b (activations_in (elim o [
          | Some k ↦
              (if is_implicit c s n k then with_made_activation c run p servant s else s)
          | None ↦ s
        ])) → EndFrom c s (Some (Reference p servant)) b) [
          | Some k ↦
              cond_both (is_implicit c s n k) (with_made_activation c run p servant s) s (λ t. In b t.activations → EndFrom c s (Some (Reference p servant)) b)
              (λ _. added c s (Some (Reference p servant)) (λ a. refl) (number_at s p) p (made_id run (suc s.made)) (servant_of c servant) b)
              (λ _. kept c s (Some (Reference p servant)) (λ a. refl) b)
          | None ↦ kept c s (Some (Reference p servant)) (λ a. refl) b
        ]
        | None ↦ kept c s (Some (Reference p servant)) (λ a. refl) b
      ]

  command_from : (d : Option Command) (b : Activation) → In b (with_command c run d s).activations → EndFrom c s d b
  command_from None b there = kept c s None (λ a. refl) b there
  command_from (Some (Manager name ActivateAll)) b there = kept c s (Some (Manager name ActivateAll)) (λ a. refl) b there
  command_from (Some (Manager name (Hold wait))) b there = kept c s (Some (Manager name (Hold wait))) (λ a. refl) b there
  command_from (Some (Manager name (Discard wait))) b there = kept c s (Some (Manager name (Discard wait))) (λ a. refl) b there
  command_from (Some (Manager name (DeactivateAll true wait))) b there = off_from name wait b there
  command_from (Some (Manager name (DeactivateAll false wait))) b there = kept c s (Some (Manager name (DeactivateAll false wait))) (λ a. refl) b there
  command_from (Some (Create p)) b there = kept c s (Some (Create p)) (λ a. refl) b there
  command_from (Some (Destroy p etherealize wait)) b there =
      ended_from c s (Some (Destroy p etherealize wait)) (λ a. stands_under s.nodes p a.adapter) etherealize (λ a. refl) refl b there
  command_from (Some (Activate p servant)) b there =
      added c s (Some (Activate p servant)) (λ a. refl) (number_at s p) p (made_id run (suc s.made)) (servant_of c servant) b there
  command_from (Some (ActivateId p oid servant)) b there =
      added c s (Some (ActivateId p oid servant)) (λ a. refl) (number_at s p) p oid (servant_of c servant) b there
  command_from (Some (Deactivate p oid)) b there = deactivated_from c s (Some (Deactivate p oid)) (number_at s p) oid (λ a. refl) refl b there
  command_from (Some (Reference p servant)) b there = reference_from p servant b there
  command_from (Some (PresetLine p servant)) b there = kept c s (Some (PresetLine p servant)) (λ a. refl) b there
  command_from (Some (ForwardLine p endpoint)) b there = kept c s (Some (ForwardLine p endpoint)) (λ a. refl) b there
  command_from (Some (Unforward p)) b there = kept c s (Some (Unforward p)) (λ a. refl) b there
  command_from (Some Shutdown) b there = ended_from c s (Some Shutdown) (λ a. stands_under s.nodes [] a.adapter) true (λ a. refl) refl b there
  command_from (Some (Bad word)) b there = kept c s (Some (Bad word)) (λ a. refl) b there

  admitted_from : (r : ℕ) (key : Option Key) (v : Verdict) (b : Activation) → In b (with_admitted r key v s).activations → EndFrom c s None b
  admitted_from r None v b there = kept c s None (λ a. refl) b there
  admitted_from r (Some key) (Serve n) b there = kept c s None (λ a. refl) b there
  admitted_from r (Some key) (Preset n) b there = kept c s None (λ a. refl) b there
  admitted_from r (Some key) (Locator n) b there = kept c s None (λ a. refl) b there
  admitted_from r (Some key) (Incarnate n) b there = added c s None (λ a. refl) _ key.path key.oid _ b there
  admitted_from r (Some key) Try b there = kept c s None (λ a. refl) b there
  admitted_from r (Some key) (Refuse x) b there = kept c s None (λ a. refl) b there
  admitted_from r (Some key) (Forward x) b there = kept c s None (λ a. refl) b there
  admitted_from r (Some key) Addressing b there = kept c s None (λ a. refl) b there
  admitted_from r (Some key) Here b there = kept c s None (λ a. refl) b there
  admitted_from r (Some key) Unknown b there = kept c s None (λ a. refl) b there
  admitted_from r (Some key) (Answer x) b there = kept c s None (λ a. refl) b there
  admitted_from r (Some key) Wait b there = kept c s None (λ a. refl) b there

  come_from : (n : ℕ) (phase : Phase) (b : Activation) → In b (map (at_number n (come_to phase)) s.activations) → EndFrom c s None b
  come_from n phase b there =
      one_from c s None (λ a. refl) n (come_to phase)
      (λ a. cond_both (is_begun a) (record a { phase = phase }) a
      (λ x. (x.number ≡ a.number) × (x.adapter ≡ a.adapter) × (x.path ≡ a.path) × (x.oid ≡ a.oid) × (x.ending ≡ a.ending) × (x.quiet ≡ a.quiet))
      (λ _. (refl, refl, refl, refl, refl, refl)) (λ _. (refl, refl, refl, refl, refl, refl))) b there

  incarnated_from : (g : Stage) (answer : Incarnation) (b : Activation) → In b (with_incarnated c g answer s).activations → EndFrom c s None b
  incarnated_from (Incarnating r n) (Fresh m) b there = come_from n _ b there
  incarnated_from (Incarnating r n) (Named name) b there = come_from n _ b there
  incarnated_from (Incarnating r n) Double b there = come_from n _ b there
  incarnated_from (Incarnating r n) (ForwardTo x) b there = come_from n _ b there
  incarnated_from (Incarnating r n) (Raise x) b there = come_from n _ b there
  incarnated_from Free answer b there = kept c s None (λ a. refl) b there
  incarnated_from (Trying r) answer b there = kept c s None (λ a. refl) b there
  incarnated_from (Serving r) answer b there = kept c s None (λ a. refl) b there
  incarnated_from (Ran r) answer b there = kept c s None (λ a. refl) b there
  incarnated_from (Removing n) answer b there = kept c s None (λ a. refl) b there

  etherealized_from : (g : Stage) (b : Activation) → In b (with_etherealized g s).activations → EndFrom c s None b
  etherealized_from Free b there = kept c s None (λ a. refl) b there
  etherealized_from (Trying r) b there = kept c s None (λ a. refl) b there
  etherealized_from (Incarnating r n) b there = kept c s None (λ a. refl) b there
  etherealized_from (Serving r) b there = kept c s None (λ a. refl) b there
  etherealized_from (Ran r) b there = kept c s None (λ a. refl) b there
  etherealized_from (Removing n) b there =
      one_from c s None (λ a. refl) n (λ a. record a { etherealized = true }) (λ a. (refl, refl, refl, refl, refl, refl)) b there

  changed_from : (past : List Entry) (e : Entry) (b : Activation) → In b (changed c run past e s).activations → EndFrom c s (command_done past e) b
  changed_from past (Entered conn) b there = kept c s None (λ a. refl) b there
  changed_from past (Arrive conn size call) b there = kept c s None (λ a. refl) b there
  changed_from past (Filled conn size) b there = kept c s None (λ a. refl) b there
  changed_from past (Left conn) b there = kept c s None (λ a. refl) b there
  changed_from past (Collect conn a) b there = kept c s None (λ a. refl) b there
  changed_from past (Admit w r v) b there = by_call (call_of past r) refl there
    where
      message : command_in (call_of past r) ≡ None
          → In b (with_command c run (command_done past (Admit w r v)) (with_admitted r (key_in (call_of past r)) v s)).activations
          → EndFrom c s (command_done past (Admit w r v)) b
      message none =
          subst (λ d. In b (with_command c run d (with_admitted r (key_in (call_of past r)) v s)).activations → EndFrom c s d b)
          (sym (cond_both (is_accepted v) (command_in (call_of past r)) None (λ o. o ≡ None) (λ _. none) (λ _. refl)))
          (admitted_from r (key_in (call_of past r)) v b)

      line : key_in (call_of past r) ≡ None → In b
          (with_command c run (command_done past (Admit w r v)) (with_admitted r (key_in (call_of past r)) v s)).activations
          → EndFrom c s (command_done past (Admit w r v)) b
      line none =
          subst (λ k. In b (with_command c run (command_done past (Admit w r v)) (with_admitted r k v s)).activations
          → EndFrom c s (command_done past (Admit w r v)) b) (sym none) (command_from (command_done past (Admit w r v)) b)

      by_call : (call : Option Call) → call_of past r ≡ call
          → In b (with_command c run (command_done past (Admit w r v)) (with_admitted r (key_in (call_of past r)) v s)).activations
          → EndFrom c s (command_done past (Admit w r v)) b
      by_call None at = message (ap command_in at)
      by_call (Some (Request head target operation body)) at = message (ap command_in at)
      by_call (Some (Locate head target)) at = message (ap command_in at)
      by_call (Some (Line number command)) at = line (ap key_in at)
  changed_from past (Tried w answer) b there =
      kept c s None (λ a. refl) b (subst (λ as'. In b as') (activations_tried s (arrival_in (stage past w)) answer) there)
  changed_from past (Incarnated w answer) b there = incarnated_from (stage past w) answer b there
  changed_from past (Run w) b there = kept c s None (λ a. refl) b there
  changed_from past (Done w) b there = kept c s None (λ a. refl) b (subst (λ as'. In b as') (activations_fewer s (arrival_in (stage past w))) there)
  changed_from past (TakeOut w n x) b there =
      one_from c s None (λ a. refl) n (λ a. record a { out = true; remaining = is_elsewhere s.activations a })
      (λ a. (refl, refl, refl, refl, refl, refl)) b there
  changed_from past (Etherealized w x y) b there = etherealized_from (stage past w) b there
  changed_from past (Abandon w) b there = kept c s None (λ a. refl) b there

  -- and after what has ended went
  settled_from : (past : List Entry) (e : Entry) (b : Activation) → In b (map (let_out c (changed c run past e s)) (changed c run past e s).activations)
      → EndFrom c s (command_done past e) b
  settled_from past e b there =
      let t = changed c run past e s in
      let found = in_image (let_out c t) b t.activations there in
      subst (λ x. EndFrom c s (command_done past e) x) (sym found.2)
      (cond_both (is_left c t found.0) (record found.0 { out = true }) found.0 (λ x. EndFrom c s (command_done past e) x)
      (λ _. out_from found.0 (changed_from past e found.0 found.1)) (λ _. changed_from past e found.0 found.1))
    where
      out_from : (x : Activation) → EndFrom c s (command_done past e) x → EndFrom c s (command_done past e) (record x { out = true })
      out_from x (was a there' as_) =
          was a there' (record { number = as_.number; adapter = as_.adapter; path = as_.path; oid = as_.oid; ending = as_.ending; quiet = as_.quiet })
      out_from x (fresh number ending quiet) = fresh number ending quiet

-- what the sentence asks of an activation never changes
module _ (c : Config) (a b : Activation) (number : b.number ≡ a.number) (adapter : b.adapter ≡ a.adapter) (path : b.path ≡ a.path) (oid : b.oid ≡ a.oid) where
  ends_same : (s : Standing) (d : Option Command) → ends c s b d ≡ ends c s a d
  ends_same s None = refl
  ends_same s (Some (Manager name ActivateAll)) = refl
  ends_same s (Some (Manager name (Hold wait))) = refl
  ends_same s (Some (Manager name (Discard wait))) = refl
  ends_same s (Some (Manager name (DeactivateAll true wait))) =
      ap (λ p. elim (manager_number c name) as (λ _. Bool) [ Some m ↦ has_activator c p && (manager_at c p == m) | None ↦ false ]) path
  ends_same s (Some (Manager name (DeactivateAll false wait))) = refl
  ends_same s (Some (Create p)) = refl
  ends_same s (Some (Destroy p etherealize wait)) = ap (stands_under s.nodes p) adapter
  ends_same s (Some (Activate p servant)) = refl
  ends_same s (Some (ActivateId p i servant)) = refl
  ends_same s (Some (Deactivate p i)) = ap₂ (λ k j. (k == number_at s p) && same_bytes j i) adapter oid
  ends_same s (Some (Reference p servant)) = refl
  ends_same s (Some (PresetLine p servant)) = refl
  ends_same s (Some (ForwardLine p endpoint)) = refl
  ends_same s (Some (Unforward p)) = refl
  ends_same s (Some Shutdown) = ap (stands_under s.nodes []) adapter
  ends_same s (Some (Bad word)) = refl

  ended_same : (run : ℕ) (past : List Entry) (e : Entry) → is_ended_by c run past e b ≡ is_ended_by c run past e a
  ended_same run past e = ap₂ (λ n x. nat_lt n (length (standing c run past).activations) && x) number (ends_same (standing c run past) (command_done past e))

  was_same : (run : ℕ) (h : List Entry) → was_ended c run h b ≡ was_ended c run h a
  was_same run [] = refl
  was_same run (e ∷ past) = ap₂ (λ x y. x || y) (ended_same run past e) (was_same run past)

  quieted_same : (run : ℕ) (h : List Entry) → was_quieted c run h b ≡ was_quieted c run h a
  quieted_same run [] = refl
  quieted_same run (e ∷ past) =
      ap₂ (λ x y. if x then y else is_ended_by c run past e b && keeps_servants (command_done past e)) (was_same run past) (quieted_same run past)
      ∙ ap (λ x. if was_ended c run past a then was_quieted c run past a else x && keeps_servants (command_done past e)) (ended_same run past e)

-- no more activations than there were stand for later ones
pub more_activations : (c : Config) (run : ℕ) (past : List Entry) (e : Entry)
    → length (standing c run past).activations ≤ length (standing c run (e ∷ past)).activations
more_activations c run past e =
    let s = standing c run past in
    let t = changed c run past e s in
    let same : length (map (let_out c t) t.activations) ≡ length t.activations = length-map t.activations (let_out c t) in
    elim (changed_shape c run past s e) [
      | as_many equal ↦ omega (arith, same, equal)
      | one_more b number grown ↦
          (let longer : length t.activations ≡ length (s.activations ++ b ∷ []) = ap length grown in let parts = length-append s.activations (b ∷ []) in
          omega (arith, same, longer, parts))
    ]

-- what wasn't begun yet wasn't ended
not_yet : (c : Config) (run : ℕ) (h : List Entry) (a : Activation) → length (standing c run h).activations ≤ a.number → (was_ended c run h a ≡ false)
    × (was_quieted c run h a ≡ false)
not_yet c run [] a above = (refl, refl)
not_yet c run (e ∷ past) a above =
    let more = more_activations c run past e in
    let before : length (standing c run past).activations ≤ a.number = omega (arith, more, above) in
    let early : nat_lt a.number (length (standing c run past).activations) ≡ false =
    false_from_ne_true _ (λ is. let less = ltb-true a.number (length (standing c run past).activations) is in omega (arith, less, before)) in
    let unended : is_ended_by c run past e a ≡ false = ap (λ x. x && ends c (standing c run past) a (command_done past e)) early in
    let rest = not_yet c run past a before in (
      ap₂ (λ x y. x || y) unended rest.0,
      ap₂ (λ x y. if x then y else is_ended_by c run past e a && keeps_servants (command_done past e)) rest.0 rest.1
          ∙ ap (λ x. x && keeps_servants (command_done past e)) unended,
    )

-- the flag and the sentence, one entry on
quiet_step : (q n x w k : Bool) → w ≡ n → (n ≡ false → q ≡ false) → (q || (not n && (x && k))) ≡ (if w then q else x && k)
quiet_step q true x true k same none = or_true q
  where
    or_true : (y : Bool) → (y || false) ≡ y
    or_true true = refl
    or_true false = refl
quiet_step q false x false k same none = ap (λ y. y || (x && k)) (none refl)
quiet_step q true x false k same none = absurd (let e : false ≡ true = same in cc)
quiet_step q false x true k same none = absurd (let e : true ≡ false = same in cc)

module _ (c : Config) (run limit : ℕ) (given : IsGiven c run) (within : IsWithinLimits c limit) where
  -- what is quiet was ended
  unquiet : (h : List Entry) (a : Activation) → was_ended c run h a ≡ false → was_quieted c run h a ≡ false
  unquiet [] a none = refl
  unquiet (e ∷ past) a none =
      let parts = or_parts (is_ended_by c run past e a) (was_ended c run past a) none in
      ap₂ (λ x y. if x then was_quieted c run past a else y && keeps_servants (command_done past e)) parts.1 parts.0
    where
      or_parts : (x y : Bool) → (x || y) ≡ false → (x ≡ false) × (y ≡ false)
      or_parts true y is = absurd (let f : true ≡ false = is in cc)
      or_parts false y is = (refl, is)

  pub endings_are : (h : List Entry) → IsLegal c run limit h → (a : Activation) → In a (standing c run h).activations → (a.ending ≡ was_ended c run h a)
      × (a.quiet ≡ was_quieted c run h a)
  endings_are [] legal a there = (let opens = all_open c run a there in (opens.3, opens.4))
  endings_are (e ∷ past) legal b there =
      elim (settled_from c run (standing c run past) past e b there) [
        | was a is as_ ↦ (let before = endings_are past legal.1 a is in
            let sound = legal_sound c run limit past given within legal.1 in
            let begun : nat_lt a.number (length (standing c run past).activations) ≡ true = lt-ltb _ _ (sound.counted a is) in
            let by_entry : ends c (standing c run past) a (command_done past e) ≡ is_ended_by c run past e a =
            ap (λ x. x && ends c (standing c run past) a (command_done past e)) (sym begun) in (
              as_.ending ∙ (ap₂ (λ x y. x || y) by_entry before.0 ∙ sym (was_same c a b as_.number as_.adapter as_.path as_.oid run (e ∷ past))),
              as_.quiet
                  ∙ (quiet_step a.quiet a.ending (ends c (standing c run past) a (command_done past e)) (was_ended c run past a)
                  (keeps_servants (command_done past e)) (sym before.0) (λ none. before.1 ∙ unquiet past a (sym before.0 ∙ none))
                  ∙ (ap₂ (λ q x. if was_ended c run past a then q else x && keeps_servants (command_done past e)) before.1 by_entry
                  ∙ sym (quieted_same c a b as_.number as_.adapter as_.path as_.oid run (e ∷ past)))),
            ))
        | fresh number ending quiet ↦
            (let early : nat_lt b.number (length (standing c run past).activations) ≡ false =
            false_from_ne_true _ (λ is. let less = ltb-true b.number (length (standing c run past).activations) is in omega (arith, less, number)) in
            let unended : is_ended_by c run past e b ≡ false = ap (λ x. x && ends c (standing c run past) b (command_done past e)) early in
            let rest = not_yet c run past b (omega (arith, number)) in (
              ending ∙ sym (ap₂ (λ x y. x || y) unended rest.0),
              quiet ∙ sym (ap₂ (λ x y. if x then y else is_ended_by c run past e b && keeps_servants (command_done past e)) rest.0 rest.1
                  ∙ ap (λ x. x && keeps_servants (command_done past e)) unended),
            ))
      ]
