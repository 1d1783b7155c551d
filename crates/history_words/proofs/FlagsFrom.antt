-- What an entry leaves of the two flags that a servant activator is told.
use Rattle.std.specs.Prelude.{◌≡◌, ℕ, suc, Bool, true, false, not, ◌&&◌, ◌||◌, ◌==◌, if◌then◌else◌}
use Rattle.std.specs.Prelude.{List, [], ◌∷◌, map, length, Option, Some, None, refl}
use Rattle.std.proofs.Common.{inl, inr, sym, subst, ap, ap₂, ◌∙◌}
use Rattle.std.proofs.lemmas.Bool.{cond_both}
use Rattle.poa_base.specs.declared.Config.{Config}
use Rattle.poa_base.specs.declared.Key.{Key}
use Rattle.poa_base.specs.declared.Call.{Call}
use Rattle.poa_base.specs.declared.Call.TheVariants.{Request, Locate, Line}
use Rattle.poa_base.specs.declared.Command.{Command}
use Rattle.poa_base.specs.declared.Command.TheVariants.{Manager, Create, Destroy, Activate, ActivateId, Deactivate, Reference, Preset as PresetLine}
use Rattle.poa_base.specs.declared.Command.TheVariants.{Forward as ForwardLine, Unforward, Shutdown, Bad}
use Rattle.poa_base.specs.declared.Order.TheVariants.{Activate as ActivateAll, Hold, Discard, Deactivate as DeactivateAll}
use Rattle.poa_base.specs.declared.Verdict.{Verdict}
use Rattle.poa_base.specs.declared.Verdict.TheVariants.{Serve, Preset, Locator, Incarnate, Try, Refuse, Forward, Addressing, Here, Unknown, Answer, Wait}
use Rattle.poa_base.specs.declared.Entry.{Entry}
use Rattle.poa_base.specs.declared.Entry.TheVariants.{Entered, Arrive, Filled, Left, Collect, Admit, Tried, Incarnated}
use Rattle.poa_base.specs.declared.Entry.TheVariants.{Run, Done, TakeOut, Etherealized, Abandon}
use Rattle.poa_base.specs.declared.Incarnation.{Incarnation}
use Rattle.poa_base.specs.declared.Incarnation.TheVariants.{Fresh, Named, Double, Forward as ForwardTo, Raise}
use Rattle.history_standing.specs.declared.activation.Activation.{Activation}
use Rattle.history_standing.specs.declared.activation.Phase.{Phase}
use Rattle.history_standing.specs.declared.activation.Phase.TheVariants.{Begun}
use Rattle.history_standing.specs.declared.stage.Stage.{Stage}
use Rattle.history_standing.specs.declared.stage.Stage.TheVariants.{Free, Trying, Incarnating, Serving, Ran, Removing}
use Rattle.history_standing.specs.Nodes.{stands_under}
use Rattle.history_standing.specs.Trees.{In}
use Rattle.history_standing.proofs.Members.{in_either, in_image}
use Rattle.history_standing.specs.Arrivals.{call_of}
use Rattle.history_standing.specs.Changes.{standing, changed, with_admitted, ended_by_destroy, with_manager_off, servant_of, with_made_activation, with_reference, with_command, at_number, come_to, with_incarnated, is_elsewhere, with_etherealized}
use Rattle.history_standing.specs.Commands.{is_implicit, live_at}
use Rattle.poa_history.specs.Endings.{ends}
use Rattle.history_standing.specs.Ends.{is_left, let_out}
use Rattle.history_standing.specs.Keys.{key_in}
use Rattle.history_standing.specs.Logs.{is_accepted, command_in, command_done}
use Rattle.history_standing.specs.Opening.{with_activation, made_id, number_at}
use Rattle.history_standing.specs.Stages.{stage, arrival_in}
use Rattle.history_standing.specs.Standings.{Standing, is_begun, is_of}
use Rattle.history_standing.specs.Templates.{has_activator, manager_at, manager_number, servant_number}
use Rattle.poa_history.proofs.Untouched.{activations_in, activations_fewer, activations_tried}
use Rattle.history_words.specs.Flags.{etherealizes}

-- an activation without what it has come to but for the two flags
abbrev pub bare : Activation → Activation
bare a = record a { phase = Begun; ending = false; quiet = false; out = false; etherealized = false }

or_other : (x y : Bool) → (x || y) ≡ (y || x)
or_other true true = refl
or_other true false = refl
or_other false true = refl
or_other false false = refl

or_nothing : (x y : Bool) → y ≡ ((x && false) || y)
or_nothing true y = refl
or_nothing false y = refl

module _ (c : Config) (s : Standing) (d : Option Command) (others : Activation → Bool) where
  -- the flags after a command; others says whether activations remain
  abbrev pub flagged : Activation → Activation
  flagged a = record (bare a) { cleanup = (ends c s a d && (etherealizes d && not a.out)) || a.cleanup; remaining = others a }

  pub data FlagsFrom (b : Activation) : Type 0 where
    was : (a : Activation) → In a s.activations → bare b ≡ flagged a → FlagsFrom b
    fresh : b.number ≡ length s.activations → b.cleanup ≡ false → b.remaining ≡ false → FlagsFrom b

  kept : ((a : Activation) → bare a ≡ flagged a) → (b : Activation) → In b s.activations → FlagsFrom b
  kept same b there = was b there (same b)

  mapped : (f : Activation → Activation) → ((a : Activation) → bare (f a) ≡ flagged a) → (b : Activation) → In b (map f s.activations) → FlagsFrom b
  mapped f same b there = (let found = in_image f b s.activations there in was found.0 found.1 (ap bare found.2 ∙ same found.0))

  -- what changes none of the flags where a test passes
  mapped_where : ((a : Activation) → bare a ≡ flagged a) → (test : Activation → Bool) (f : Activation → Activation)
      → ((a : Activation) → bare (f a) ≡ bare a) → (b : Activation) → In b (map (λ a. if test a then f a else a) s.activations) → FlagsFrom b
  mapped_where same test f bares b there =
      mapped (λ a. if test a then f a else a) (λ a. cond_both (test a) (f a) a (λ x. bare x ≡ flagged a) (λ _. bares a ∙ same a) (λ _. same a)) b there

  added : ((a : Activation) → bare a ≡ flagged a) → (k : ℕ) (p : List (List ℕ)) (oid : List ℕ) (phase : Phase) (b : Activation)
      → In b (with_activation k p oid phase s).activations → FlagsFrom b
  added same k p oid phase b there =
      elim (in_either b
      (record {
        number = length s.activations;
        adapter = k;
        path = p;
        oid = oid;
        phase = phase;
        ending = false;
        quiet = false;
        out = false;
        cleanup = false;
        remaining = false;
        etherealized = false;
      }) s.activations there)
      [ inl before ↦ kept same b before | inr made ↦ fresh (ap (λ x. x.number) made) (ap (λ x. x.cleanup) made) (ap (λ x. x.remaining) made) ]

-- by a command; none of them takes anything out
module _ (c : Config) (run : ℕ) (s : Standing) where
  abbrev remains : Activation → Bool
  remains a = a.remaining

  ended_from : (d : Option Command) (test : Activation → Bool) (etherealize : Bool) → ((a : Activation) → ends c s a d ≡ test a)
      → etherealizes d ≡ etherealize → (b : Activation) → In b (map (λ a. if test a then ended_by_destroy etherealize a else a) s.activations)
      → FlagsFrom c s d remains b
  ended_from d test etherealize tells cleans =
      mapped c s d remains (λ a. if test a then ended_by_destroy etherealize a else a)
      (λ a. cond_both (test a) (ended_by_destroy etherealize a) a (λ x. bare x ≡ flagged c s d remains a)
      (λ passes. ap (λ y. record (bare a) { cleanup = y })
      (or_other a.cleanup (etherealize && not a.out) ∙ ap₂ (λ x y. (x && (y && not a.out)) || a.cleanup) (sym (tells a ∙ passes)) (sym cleans)))
      (λ fails. ap (λ y. record (bare a) { cleanup = (y && (etherealizes d && not a.out)) || a.cleanup }) (sym (tells a ∙ fails))))

  off_from : (name : List ℕ) (wait : Bool) (b : Activation)
      → In b (activations_in (elim (manager_number c name) [ Some m ↦ with_manager_off c m s | None ↦ s ]))
      → FlagsFrom c s (Some (Manager name (DeactivateAll true wait))) remains b
  off_from name wait b =
      elim (manager_number c name) as
      (λ o. manager_number c name ≡ o → In b (activations_in (elim o [ Some m ↦ with_manager_off c m s | None ↦ s ]))
      → FlagsFrom c s (Some (Manager name (DeactivateAll true wait))) remains b) [
        | Some m ↦ λ is. ended_from (Some (Manager name (DeactivateAll true wait))) (λ a. has_activator c a.path && (manager_at c a.path == m)) true
            (λ a. ap (λ o. elim o as (λ _. Bool) [ Some k ↦ has_activator c a.path && (manager_at c a.path == k) | None ↦ false ]) is) refl b
        | None ↦ λ none. kept c s (Some (Manager name (DeactivateAll true wait))) remains
            (λ a. ap (λ o. record
            (bare a) {
              cleanup =
                  ((elim o as (λ _. Bool) [ Some k ↦ has_activator c a.path && (manager_at c a.path == k) | None ↦ false ]) &&
                  (true && not a.out)) || a.cleanup;
            }) (sym none)) b
      ] refl

  reference_from : (p : List (List ℕ)) (servant : List ℕ) (b : Activation) → In b (with_reference c run p servant s).activations
      → FlagsFrom c s (Some (Reference p servant)) remains b
  reference_from p servant b =
      elim (live_at s p) as
      (λ o. In b
      (activations_in
      (elim o [
        | Some n ↦
            (elim (servant_number c servant)
            [ Some k ↦ (if is_implicit c s n k then with_made_activation c run p servant s else s) | None ↦ s ])
        | None ↦ s
      ]))
      → FlagsFrom c s (Some (Reference p servant)) remains b) [
        | Some n ↦ elim (servant_number c servant) as
            (λ o. In b (activations_in (elim o [ Some k ↦ (if is_implicit c s n k then with_made_activation c run p servant s else s) | None ↦ s ]))
            → FlagsFrom c s (Some (Reference p servant)) remains b) [
              | Some k ↦ cond_both (is_implicit c s n k) (with_made_activation c run p servant s) s
                  (λ t. In b t.activations → FlagsFrom c s (Some (Reference p servant)) remains b)
                  (λ _. added c s (Some (Reference p servant)) remains (λ a. refl) (number_at s p) p (made_id run (suc s.made)) (servant_of c servant) b)
                  (λ _. kept c s (Some (Reference p servant)) remains (λ a. refl) b)
              | None ↦ kept c s (Some (Reference p servant)) remains (λ a. refl) b
            ]
        | None ↦ kept c s (Some (Reference p servant)) remains (λ a. refl) b
      ]

  -- one that is deactivated is ended by what etherealizes nothing
  deactivated_from : (p : List (List ℕ)) (oid : List ℕ) (b : Activation)
      → In b (map (λ a. if is_of (number_at s p) oid a then record a { ending = true } else a) s.activations)
      → FlagsFrom c s (Some (Deactivate p oid)) remains b
  deactivated_from p oid =
      mapped_where c s (Some (Deactivate p oid)) remains
      (λ a. ap (λ y. record (bare a) { cleanup = y }) (or_nothing (is_of (number_at s p) oid a) a.cleanup)) (is_of (number_at s p) oid)
      (λ a. record a { ending = true }) (λ a. refl)

  command_from : (d : Option Command) (b : Activation) → In b (with_command c run d s).activations → FlagsFrom c s d remains b
  command_from None = kept c s None remains (λ a. refl)
  command_from (Some (Manager name ActivateAll)) = kept c s (Some (Manager name ActivateAll)) remains (λ a. refl)
  command_from (Some (Manager name (Hold wait))) = kept c s (Some (Manager name (Hold wait))) remains (λ a. refl)
  command_from (Some (Manager name (Discard wait))) = kept c s (Some (Manager name (Discard wait))) remains (λ a. refl)
  command_from (Some (Manager name (DeactivateAll true wait))) = off_from name wait
  command_from (Some (Manager name (DeactivateAll false wait))) = kept c s (Some (Manager name (DeactivateAll false wait))) remains (λ a. refl)
  command_from (Some (Create p)) = kept c s (Some (Create p)) remains (λ a. refl)
  command_from (Some (Destroy p etherealize wait)) =
      ended_from (Some (Destroy p etherealize wait)) (λ a. stands_under s.nodes p a.adapter) etherealize (λ a. refl) refl
  command_from (Some (Activate p servant)) =
      added c s (Some (Activate p servant)) remains (λ a. refl) (number_at s p) p (made_id run (suc s.made)) (servant_of c servant)
  command_from (Some (ActivateId p oid servant)) =
      added c s (Some (ActivateId p oid servant)) remains (λ a. refl) (number_at s p) p oid (servant_of c servant)
  command_from (Some (Deactivate p oid)) = deactivated_from p oid
  command_from (Some (Reference p servant)) = reference_from p servant
  command_from (Some (PresetLine p servant)) = kept c s (Some (PresetLine p servant)) remains (λ a. refl)
  command_from (Some (ForwardLine p endpoint)) = kept c s (Some (ForwardLine p endpoint)) remains (λ a. refl)
  command_from (Some (Unforward p)) = kept c s (Some (Unforward p)) remains (λ a. refl)
  command_from (Some Shutdown) = ended_from (Some Shutdown) (λ a. stands_under s.nodes [] a.adapter) true (λ a. refl) refl
  command_from (Some (Bad word)) = kept c s (Some (Bad word)) remains (λ a. refl)

  admitted_from : (r : ℕ) (key : Option Key) (v : Verdict) (b : Activation) → In b (with_admitted r key v s).activations → FlagsFrom c s None remains b
  admitted_from r None v = kept c s None remains (λ a. refl)
  admitted_from r (Some key) (Serve n) = kept c s None remains (λ a. refl)
  admitted_from r (Some key) (Preset n) = kept c s None remains (λ a. refl)
  admitted_from r (Some key) (Locator n) = kept c s None remains (λ a. refl)
  admitted_from r (Some key) (Incarnate n) = added c s None remains (λ a. refl) _ key.path key.oid Begun
  admitted_from r (Some key) Try = kept c s None remains (λ a. refl)
  admitted_from r (Some key) (Refuse x) = kept c s None remains (λ a. refl)
  admitted_from r (Some key) (Forward x) = kept c s None remains (λ a. refl)
  admitted_from r (Some key) Addressing = kept c s None remains (λ a. refl)
  admitted_from r (Some key) Here = kept c s None remains (λ a. refl)
  admitted_from r (Some key) Unknown = kept c s None remains (λ a. refl)
  admitted_from r (Some key) (Answer x) = kept c s None remains (λ a. refl)
  admitted_from r (Some key) Wait = kept c s None remains (λ a. refl)

  come_from : (n : ℕ) (phase : Phase) (b : Activation) → In b (map (at_number n (come_to phase)) s.activations) → FlagsFrom c s None remains b
  come_from n phase =
      mapped_where c s None remains (λ a. refl) (λ a. a.number == n) (come_to phase)
      (λ a. cond_both (is_begun a) (record a { phase = phase }) a (λ x. bare x ≡ bare a) (λ _. refl) (λ _. refl))

  incarnated_from : (g : Stage) (answer : Incarnation) (b : Activation) → In b (with_incarnated c g answer s).activations → FlagsFrom c s None remains b
  incarnated_from (Incarnating r n) (Fresh m) = come_from n _
  incarnated_from (Incarnating r n) (Named name) = come_from n _
  incarnated_from (Incarnating r n) Double = come_from n _
  incarnated_from (Incarnating r n) (ForwardTo x) = come_from n _
  incarnated_from (Incarnating r n) (Raise x) = come_from n _
  incarnated_from Free answer = kept c s None remains (λ a. refl)
  incarnated_from (Trying r) answer = kept c s None remains (λ a. refl)
  incarnated_from (Serving r) answer = kept c s None remains (λ a. refl)
  incarnated_from (Ran r) answer = kept c s None remains (λ a. refl)
  incarnated_from (Removing n) answer = kept c s None remains (λ a. refl)

  etherealized_from : (g : Stage) (b : Activation) → In b (with_etherealized g s).activations → FlagsFrom c s None remains b
  etherealized_from Free = kept c s None remains (λ a. refl)
  etherealized_from (Trying r) = kept c s None remains (λ a. refl)
  etherealized_from (Incarnating r n) = kept c s None remains (λ a. refl)
  etherealized_from (Serving r) = kept c s None remains (λ a. refl)
  etherealized_from (Ran r) = kept c s None remains (λ a. refl)
  etherealized_from (Removing n) = mapped_where c s None remains (λ a. refl) (λ a. a.number == n) (λ a. record a { etherealized = true }) (λ a. refl)

  -- whether activations remain is found where one is taken out
  abbrev pub remains_by : Entry → Activation → Bool
  remains_by (TakeOut w n x) a = if a.number == n then is_elsewhere s.activations a else a.remaining
  remains_by e a = a.remaining

  changed_from : (past : List Entry) (e : Entry) (b : Activation) → In b (changed c run past e s).activations
      → FlagsFrom c s (command_done past e) (remains_by e) b
  changed_from past (Entered conn) b there = kept c s None remains (λ a. refl) b there
  changed_from past (Arrive conn size call) b there = kept c s None remains (λ a. refl) b there
  changed_from past (Filled conn size) b there = kept c s None remains (λ a. refl) b there
  changed_from past (Left conn) b there = kept c s None remains (λ a. refl) b there
  changed_from past (Collect conn a) b there = kept c s None remains (λ a. refl) b there
  changed_from past (Admit w r v) b there = by_call (call_of past r) refl there
    where
      message : command_in (call_of past r) ≡ None
          → In b (with_command c run (command_done past (Admit w r v)) (with_admitted r (key_in (call_of past r)) v s)).activations
          → FlagsFrom c s (command_done past (Admit w r v)) remains b
      message none =
          subst (λ d. In b (with_command c run d (with_admitted r (key_in (call_of past r)) v s)).activations → FlagsFrom c s d remains b)
          (sym (cond_both (is_accepted v) (command_in (call_of past r)) None (λ o. o ≡ None) (λ _. none) (λ _. refl)))
          (admitted_from r (key_in (call_of past r)) v b)

      line : key_in (call_of past r) ≡ None
          → In b (with_command c run (command_done past (Admit w r v)) (with_admitted r (key_in (call_of past r)) v s)).activations
          → FlagsFrom c s (command_done past (Admit w r v)) remains b
      line none =
          subst (λ k. In b (with_command c run (command_done past (Admit w r v)) (with_admitted r k v s)).activations
          → FlagsFrom c s (command_done past (Admit w r v)) remains b) (sym none)
          (command_from (command_done past (Admit w r v)) b)

      by_call : (call : Option Call) → call_of past r ≡ call
          → In b (with_command c run (command_done past (Admit w r v)) (with_admitted r (key_in (call_of past r)) v s)).activations
          → FlagsFrom c s (command_done past (Admit w r v)) remains b
      by_call None at = message (ap command_in at)
      by_call (Some (Request head target operation body)) at = message (ap command_in at)
      by_call (Some (Locate head target)) at = message (ap command_in at)
      by_call (Some (Line number command)) at = line (ap key_in at)
  changed_from past (Tried w answer) b there =
      kept c s None remains (λ a. refl) b (subst (λ as'. In b as') (activations_tried s (arrival_in (stage past w)) answer) there)
  changed_from past (Incarnated w answer) b there = incarnated_from (stage past w) answer b there
  changed_from past (Run w) b there = kept c s None remains (λ a. refl) b there
  changed_from past (Done w) b there = kept c s None remains (λ a. refl) b (subst (λ as'. In b as') (activations_fewer s (arrival_in (stage past w))) there)
  changed_from past (TakeOut w n x) b there =
      mapped c s None (remains_by (TakeOut w n x)) (at_number n (λ a. record a { out = true; remaining = is_elsewhere s.activations a }))
      (λ a. elim (a.number == n) as
      (λ t. bare (if t then record a { out = true; remaining = is_elsewhere s.activations a } else a) ≡ record
      (bare a) { remaining = if t then is_elsewhere s.activations a else a.remaining })
      [ true ↦ refl | false ↦ refl ]) b there
  changed_from past (Etherealized w x y) b there = etherealized_from (stage past w) b there
  changed_from past (Abandon w) b there = kept c s None remains (λ a. refl) b there

-- and after what has ended went
pub flags_from : (c : Config) (run : ℕ) (past : List Entry) (e : Entry) (b : Activation) → In b (standing c run (e ∷ past)).activations
    → FlagsFrom c (standing c run past) (command_done past e) (remains_by c run (standing c run past) e) b
flags_from c run past e b there =
    let s = standing c run past in
    let t = changed c run past e s in
    let found = in_image (let_out c t) b t.activations there in
    let same : bare b ≡ bare found.0 =
    ap bare found.2 ∙ cond_both (is_left c t found.0) (record found.0 { out = true }) found.0 (λ x. bare x ≡ bare found.0) (λ _. refl) (λ _. refl) in
    elim (changed_from c run s past e found.0 found.1) [
      | was a is flags ↦ was a is (same ∙ flags)
      | fresh number cleanup remaining ↦ fresh (ap (λ x. x.number) same ∙ number) (ap (λ x. x.cleanup) same ∙ cleanup)
          (ap (λ x. x.remaining) same ∙ remaining)
    ]
