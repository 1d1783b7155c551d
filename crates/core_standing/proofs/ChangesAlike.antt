-- What an entry changes it changes alike where some of what is over is forgotten.
use Rattle.std.specs.Prelude.{◌≡◌, ℕ, ◌+◌, suc, Bool, true, false, not, ◌&&◌, ◌||◌, ◌==◌, if◌then◌else◌, List, [], ◌∷◌, ◌++◌, map, filter, find, length, Option, Some, None, is_none, cond, refl}
use Rattle.std.specs.List.{list_any}
use Rattle.std.proofs.Common.{inl, inr, sym, ap, ap₂, subst, ◌∙◌}
use Rattle.std.proofs.lemmas.Bool.{cond_both, or_cases, and_parts}
use Rattle.std.proofs.lemmas.List.{length-append, length-map}
use Rattle.std.proofs.lemmas.List.Elements.{filter-append}
use Rattle.poa_base.specs.declared.Config.{Config}
use Rattle.poa_base.specs.declared.Key.{Key}
use Rattle.poa_base.specs.declared.Sid.{Sid}
use Rattle.poa_base.specs.declared.Sid.TheVariants.{Named as NamedServant, Fresh as FreshServant}
use Rattle.poa_base.specs.declared.Command.{Command}
use Rattle.poa_base.specs.declared.Command.TheVariants.{Manager, Create, Destroy, Activate, ActivateId, Deactivate, Reference, Preset as PresetLine, Forward as ForwardLine, Unforward, Shutdown, Bad}
use Rattle.poa_base.specs.declared.Order.TheVariants.{Activate as ActivateAll, Hold, Discard, Deactivate as DeactivateAll}
use Rattle.poa_base.specs.declared.Verdict.{Verdict}
use Rattle.poa_base.specs.declared.Verdict.TheVariants.{Serve, Preset, Locator, Incarnate, Try, Refuse, Forward, Addressing, Here, Unknown, Answer, Wait}
use Rattle.poa_base.specs.declared.Entry.{Entry}
use Rattle.poa_base.specs.declared.Entry.TheVariants.{Entered, Arrive, Filled, Left, Collect, Admit, Tried, Incarnated, Run, Done, TakeOut, Etherealized, Abandon}
use Rattle.poa_base.specs.declared.Attempt.{Attempt}
use Rattle.poa_base.specs.declared.Attempt.TheVariants.{Yes, No, Raised, Dying as ParentDying}
use Rattle.poa_base.specs.declared.Incarnation.{Incarnation}
use Rattle.poa_base.specs.declared.Incarnation.TheVariants.{Fresh, Named, Double, Forward as ForwardTo, Raise}
use Rattle.history_standing.specs.declared.node.Node.{Node}
use Rattle.history_standing.specs.Nodes.{stands_under}
use Rattle.history_standing.specs.Paths.{is_root}
use Rattle.history_standing.specs.Trees.{In}
use Rattle.history_standing.specs.Walks.{walk, adapter_met}
use Rattle.history_standing.proofs.Members.{in_front, in_back, in_either, in_image, image_in}
use Rattle.history_standing.specs.declared.activation.Activation.{Activation}
use Rattle.history_standing.specs.declared.activation.Phase.{Phase}
use Rattle.history_standing.specs.declared.activation.Phase.TheVariants.{Begun, Complete, Void}
use Rattle.history_standing.specs.declared.stage.Stage.{Stage}
use Rattle.history_standing.specs.declared.stage.Stage.TheVariants.{Free, Trying, Incarnating, Serving, Ran, Removing}
use Rattle.history_standing.specs.Arrivals.{call_of}
use Rattle.history_standing.specs.Stages.{stage, arrival_in}
use Rattle.history_standing.specs.Standings.{Standing, is_of, is_void, is_complete, is_mapped, has_servant}
use Rattle.history_standing.specs.Templates.{has_activator, manager_at, manager_number, servant_number, policies_at, retains, is_unique, activates_implicitly}
use Rattle.history_standing.specs.Ends.{is_over, is_finished, is_done_with, let_out, settled}
use Rattle.history_standing.specs.Keys.{key_in}
use Rattle.history_standing.specs.Logs.{command_done}
use Rattle.history_standing.specs.Opening.{with_activation, with_made, made_id, number_at}
use Rattle.history_standing.specs.Commands.{is_implicit, live_at}
use Rattle.history_standing.specs.Changes.{changed, with_activations, with_request, with_incarnation, with_admitted, ended_by_destroy, with_destroyed, with_manager_off, with_deactivated, servant_of, with_made_activation, with_reference, with_command, child_tried, with_child, without_flight, with_tried, at_number, come_to, with_incarnated, is_elsewhere, with_takeout, with_etherealized}
use Rattle.poa_history.specs.Later.{IsLater}
use Rattle.poa_history.proofs.ActivationsLater.{later_self, later_ended, later_ending, later_out, later_told, later_come, later_let_out}
use Rattle.poa_history.proofs.SettledKept.{or_first, or_second}
use Rattle.core_standing.specs.Seen.{forgotten}
use Rattle.active_map.specs.Live.{is_live, live}
use Rattle.core_standing.specs.Kept.{Forgets, StandsFor}
use Rattle.core_standing.proofs.Kept.{any_alike, find_alike}
use Rattle.core_standing.proofs.Still.{still_come, still_told, still_taken, still_below, still_off, still_ending, still_in, takes_alike}
use Rattle.core_standing.proofs.Behind.{first_fails, second_fails}

void_phase : (p : Phase) → (elim p [ Void ↦ true | Begun ↦ false | Complete s ↦ false ]) ≡ true → p ≡ Void
void_phase Void is = refl
void_phase Begun is = absurd (let e : false ≡ true = is in cc)
void_phase (Complete s) is = absurd (let e : false ≡ true = is in cc)

module _ (c : Config) where
  -- what is over stays so
  over_later : (a b : Activation) → IsLater c a b → is_over c a ≡ true → is_over c b ≡ true
  over_later a b later over =
      elim (or_cases (is_void a) (is_finished c a) over) [
        | inl void ↦
            or_first (is_void b) (is_finished c b)
            (ap (λ p. elim p [ Void ↦ true | Begun ↦ false | Complete s ↦ false ]) (later.void (void_phase a.phase void)))
        | inr finished ↦ or_second (is_void b) (is_finished c b) (later.finished finished)
      ]

  -- its servant isn't in the map by it
  pub unmapped : (a : Activation) → is_over c a ≡ true → is_mapped a ≡ false
  unmapped a over =
      elim (or_cases (is_void a) (is_finished c a) over) [
        | inl void ↦ first_fails (is_complete a) (not a.out) (ap (λ p. elim p [ Complete s ↦ true | Begun ↦ false | Void ↦ false ]) (void_phase a.phase void))
        | inr finished ↦ second_fails (is_complete a) (not a.out) (ap not (and_parts a.out _ finished).0)
      ]

  not_live : (a : Activation) → is_over c a ≡ true → is_live c a ≡ false
  not_live a over = ap not over

  over_by : (a : Activation) → is_live c a ≡ false → is_over c a ≡ true
  over_by a = by (is_over c a)
    where
      by : (b : Bool) → not b ≡ false → b ≡ true
      by true is = refl
      by false is = absurd (let e : true ≡ false = is in cc)

  live_map : (f : Activation → Activation) → ((a : Activation) → IsLater c a (f a)) → (as' : List Activation) → live c (map f (live c as')) ≡ live c (map f as')
  live_map f later [] = refl
  live_map f later (a ∷ as') =
      cond_both (is_live c a) (a ∷ live c as') (live c as') (λ bs. live c (map f bs) ≡ live c (f a ∷ map f as'))
      (λ _. ap (λ bs. cond (is_live c (f a)) (f a ∷ bs) bs) (live_map f later as'))
      (λ dead. live_map f later as'
      ∙ sym (ap (λ b. cond b (f a ∷ live c (map f as')) (live c (map f as'))) (not_live (f a) (over_later a (f a) (later a) (over_by a dead)))))

  module _ (all some : List Activation) (forgets : Forgets c all some) where
    pub maps : (f : Activation → Activation) → f forgotten ≡ forgotten → ((a : Activation) → IsLater c a (f a)) → Forgets c (map f all) (map f some)
    maps f still later = record {
      begun = length-map some f ∙ forgets.begun ∙ sym (length-map all f);
      lives = sym (live_map f later some) ∙ ap (λ as'. live c (map f as')) forgets.lives ∙ live_map f later all;
      known = λ b there. (let found = in_image f b some there in elim (forgets.known found.0 found.1) [
        | inl same ↦ inl (found.2 ∙ ap f same ∙ still)
        | inr old ↦ inr (subst (λ x. In x (map f all)) (sym found.2) (image_in f found.0 all old))
      ]);
    }

    pub pushes : (a b : Activation) → b ≡ a → Forgets c (all ++ a ∷ []) (some ++ b ∷ [])
    pushes a b same = subst (λ x. Forgets c (all ++ a ∷ []) (some ++ x ∷ [])) (sym same) (record {
      begun = length-append some (a ∷ []) ∙ ap (λ n. n + 1) forgets.begun ∙ sym (length-append all (a ∷ []));
      lives = filter-append (is_live c) some (a ∷ []) ∙ ap (λ as'. as' ++ live c (a ∷ [])) forgets.lives ∙ sym (filter-append (is_live c) all (a ∷ []));
      known = λ x there. elim (in_either x a some there) [
        | inl before ↦ elim (forgets.known x before) [ inl spent ↦ inl spent | inr old ↦ inr (in_front x a all old) ]
        | inr is ↦ inr (subst (λ y. In y (all ++ a ∷ [])) (sym is) (in_back a all))
      ];
    })

    pub elsewhere_alike : (a : Activation) → is_elsewhere some a ≡ is_elsewhere all a
    elsewhere_alike a =
        any_alike c all some forgets
        (λ b. not (b.number == a.number) &&
        ((b.adapter == a.adapter) && (is_mapped b && (elim a.phase [ Complete s ↦ has_servant s b | Begun ↦ false | Void ↦ false ]))))
        (second_fails (not (forgotten.number == a.number)) _ (second_fails (forgotten.adapter == a.adapter) _ refl))
        (λ b there over. second_fails (not (b.number == a.number)) _ (second_fails (b.adapter == a.adapter) _ (first_fails (is_mapped b) _ (unmapped b over))))

    pub mapped_alike : (k : ℕ) (s : Sid) → find (λ a. (a.adapter == k) && (is_mapped a && has_servant s a)) some ≡ find
        (λ a. (a.adapter == k) && (is_mapped a && has_servant s a)) all
    mapped_alike k s =
        find_alike c all some forgets (λ a. (a.adapter == k) && (is_mapped a && has_servant s a))
        (second_fails (forgotten.adapter == k) _ refl)
        (λ a there over. second_fails (a.adapter == k) _ (first_fails (is_mapped a) _ (unmapped a over)))

    pub lived_alike : (ns : List Node) (p : List (List ℕ))
        → list_any (λ a. not (is_over c a) && stands_under ns p a.adapter) some ≡ list_any (λ a. not (is_over c a) && stands_under ns p a.adapter) all
    lived_alike ns p =
        any_alike c all some forgets (λ a. not (is_over c a) && stands_under ns p a.adapter) refl
        (λ a there over. first_fails (not (is_over c a)) _ (ap not over))

  kept_numbers : (n : ℕ) (remains : Activation → Bool) (a : Activation) → IsLater c a (at_number n (λ b. record b { out = true; remaining = remains b }) a)
  kept_numbers n remains a =
      cond_both (a.number == n) (record a { out = true; remaining = remains a }) a (IsLater c a) (λ _. later_out c a (remains a)) (λ _. later_self c a)

  -- what stands, with other activations
  abbrev on : Standing → List Activation → Standing
  on s as' = record s { activations = as' }

  -- a change that makes alike of alike
  abbrev Keeps : (Standing → Standing) → Type 0
  Keeps F = (s : Standing) (all some : List Activation) → Forgets c all some → StandsFor c (F (on s all)) (F (on s some))

  pub through : (F : Standing → Standing) → Keeps F → (s t : Standing) → StandsFor c s t → StandsFor c (F s) (F t)
  through F keeps s t stands = subst (λ u. StandsFor c (F s) (F u)) (sym stands.same) (keeps s s.activations t.activations stands.forgets)

  itself : Keeps (λ s. s)
  itself s all some forgets = record { same = refl; forgets = forgets }

  fewer : (r : Option ℕ) → Keeps (without_flight r)
  fewer None s all some forgets = record { same = refl; forgets = forgets }
  fewer (Some r) s all some forgets = record { same = refl; forgets = forgets }

  child : (p : Option (List (List ℕ))) → Keeps (with_child p)
  child None s all some forgets = record { same = refl; forgets = forgets }
  child (Some p) s all some forgets = record { same = refl; forgets = forgets }

  where_later : (test : Activation → Bool) (f : Activation → Activation) → ((a : Activation) → IsLater c a (f a)) → (a : Activation)
      → IsLater c a (if test a then f a else a)
  where_later test f later a = cond_both (test a) (f a) a (IsLater c a) (λ _. later a) (λ _. later_self c a)

  mapped : (f : Activation → Activation) → f forgotten ≡ forgotten → ((a : Activation) → IsLater c a (f a)) → Keeps (with_activations f)
  mapped f still later s all some forgets = record { same = refl; forgets = maps all some forgets f still later }

  begins : (k : ℕ) (p : List (List ℕ)) (oid : List ℕ) (phase : Phase) → Keeps (with_activation k p oid phase)
  begins k p oid phase s all some forgets = record {
    same = refl;
    forgets = pushes all some forgets (begun (length all)) (begun (length some)) (ap begun forgets.begun);
  }
    where
      begun : ℕ → Activation
      begun n =
          record {
            number = n;
            adapter = k;
            path = p;
            oid = oid;
            phase = phase;
            ending = false;
            quiet = false;
            out = false;
            cleanup = false;
            remaining = false;
            etherealized = false;
          }

  incarnation : (r : ℕ) (key : Key) → Keeps (with_incarnation r key)
  incarnation r key s all some forgets =
      subst (λ n. StandsFor c (with_incarnation r key (on s all))
      (with_activation (adapter_met (walk s.nodes key.path)) key.path key.oid Begun (with_request r key (Some n) (on s some)))) (sym forgets.begun)
      (begins (adapter_met (walk s.nodes key.path)) key.path key.oid Begun (with_request r key (Some (length all)) s) all some forgets)

  admitted : (r : ℕ) (key : Option Key) (v : Verdict) → Keeps (with_admitted r key v)
  admitted r (Some key) (Serve n) s all some forgets = record { same = refl; forgets = forgets }
  admitted r (Some key) (Preset servant) s all some forgets = record { same = refl; forgets = forgets }
  admitted r (Some key) (Locator servant) s all some forgets = record { same = refl; forgets = forgets }
  admitted r (Some key) (Incarnate n) s all some forgets = incarnation r key s all some forgets
  admitted r (Some key) Try s all some forgets = record { same = refl; forgets = forgets }
  admitted r (Some key) (Refuse x) s all some forgets = record { same = refl; forgets = forgets }
  admitted r (Some key) (Forward x) s all some forgets = record { same = refl; forgets = forgets }
  admitted r (Some key) Addressing s all some forgets = record { same = refl; forgets = forgets }
  admitted r (Some key) Here s all some forgets = record { same = refl; forgets = forgets }
  admitted r (Some key) Unknown s all some forgets = record { same = refl; forgets = forgets }
  admitted r (Some key) (Answer x) s all some forgets = record { same = refl; forgets = forgets }
  admitted r (Some key) Wait s all some forgets = record { same = refl; forgets = forgets }
  admitted r None v s all some forgets = record { same = refl; forgets = forgets }

  destroyed : (p : List (List ℕ)) (etherealize : Bool) → Keeps (with_destroyed p etherealize)
  destroyed p etherealize s all some forgets = record {
    same = refl;
    forgets = maps all some forgets (λ a. if stands_under s.nodes p a.adapter then ended_by_destroy etherealize a else a) (still_below s.nodes p etherealize)
        (where_later (λ a. stands_under s.nodes p a.adapter) (ended_by_destroy etherealize) (later_ended c etherealize));
  }

  off : (m : ℕ) → Keeps (with_manager_off c m)
  off m = mapped (λ a. if has_activator c a.path && (manager_at c a.path == m) then ended_by_destroy true a else a) (still_off c m)
      (where_later (λ a. has_activator c a.path && (manager_at c a.path == m)) (ended_by_destroy true) (later_ended c true))

  deactivated : (k : ℕ) (oid : List ℕ) → Keeps (with_deactivated k oid)
  deactivated k oid =
      mapped (λ a. if is_of k oid a then record a { ending = true } else a) (still_ending k oid)
      (where_later (is_of k oid) (λ a. record a { ending = true }) (later_ending c))

  made : (run : ℕ) (p : List (List ℕ)) (servant : List ℕ) → Keeps (with_made_activation c run p servant)
  made run p servant s all some forgets = begins (number_at s p) p (made_id run (suc s.made)) (servant_of c servant) (with_made s) all some forgets

  implicit_alike : (s : Standing) (all some : List Activation) → Forgets c all some → (n : Node) (k : ℕ)
      → is_implicit c (on s some) n k ≡ is_implicit c (on s all) n k
  implicit_alike s all some forgets n k =
      ap (λ o. is_none (if retains (policies_at c n.path) && is_unique (policies_at c n.path) then o else None) &&
      (retains (policies_at c n.path) && activates_implicitly (policies_at c n.path)))
      (mapped_alike all some forgets n.number (NamedServant k))

  referring : (run : ℕ) (p : List (List ℕ)) (servant : List ℕ) → Keeps (with_reference c run p servant)
  referring run p servant s all some forgets =
      elim (live_at s p) as (λ o. StandsFor c (at_node all o) (at_node some o)) [
        | Some n ↦ elim (servant_number c servant) as (λ o. StandsFor c (at_servant all n o) (at_servant some n o)) [
          | Some k ↦
              subst (λ b. StandsFor c (at_servant all n (Some k)) (if b then with_made_activation c run p servant (on s some) else on s some))
              (sym (implicit_alike s all some forgets n k))
              (elim (is_implicit c (on s all) n k) as (λ b. StandsFor c (if b then with_made_activation c run p servant (on s all) else on s all)
              (if b then with_made_activation c run p servant (on s some) else on s some))
              [ true ↦ made run p servant s all some forgets | false ↦ itself s all some forgets ])
          | None ↦ itself s all some forgets
        ]
        | None ↦ itself s all some forgets
      ]
    where
      at_servant : List Activation → Node → Option ℕ → Standing
      at_servant as' n o =
          elim o [ Some k ↦ (if is_implicit c (on s as') n k then with_made_activation c run p servant (on s as') else on s as') | None ↦ on s as' ]

      at_node : List Activation → Option Node → Standing
      at_node as' o = elim o [ Some n ↦ at_servant as' n (servant_number c servant) | None ↦ on s as' ]

  commanded : (run : ℕ) (command : Option Command) → Keeps (with_command c run command)
  commanded run (Some (Manager name (DeactivateAll true wait))) s all some forgets =
      elim (manager_number c name) as (λ o. StandsFor c (elim o [ Some m ↦ with_manager_off c m (on s all) | None ↦ on s all ])
      (elim o [ Some m ↦ with_manager_off c m (on s some) | None ↦ on s some ]))
      [ Some m ↦ off m s all some forgets | None ↦ itself s all some forgets ]
  commanded run (Some (Manager name (DeactivateAll false wait))) s all some forgets = itself s all some forgets
  commanded run (Some (Manager name ActivateAll)) s all some forgets = itself s all some forgets
  commanded run (Some (Manager name (Hold wait))) s all some forgets = itself s all some forgets
  commanded run (Some (Manager name (Discard wait))) s all some forgets = itself s all some forgets
  commanded run (Some (Create p)) s all some forgets = record { same = refl; forgets = forgets }
  commanded run (Some (Destroy p etherealize wait)) s all some forgets = destroyed p etherealize s all some forgets
  commanded run (Some (Activate p servant)) s all some forgets = made run p servant s all some forgets
  commanded run (Some (ActivateId p oid servant)) s all some forgets = begins (number_at s p) p oid (servant_of c servant) s all some forgets
  commanded run (Some (Deactivate p oid)) s all some forgets = deactivated (number_at s p) oid s all some forgets
  commanded run (Some (Reference p servant)) s all some forgets = referring run p servant s all some forgets
  commanded run (Some Shutdown) s all some forgets = destroyed [] true s all some forgets
  commanded run (Some (PresetLine p servant)) s all some forgets = itself s all some forgets
  commanded run (Some (ForwardLine p endpoint)) s all some forgets = itself s all some forgets
  commanded run (Some (Unforward p)) s all some forgets = itself s all some forgets
  commanded run (Some (Bad word)) s all some forgets = itself s all some forgets
  commanded run None s all some forgets = itself s all some forgets

  tried : (r : Option ℕ) (answer : Attempt) → Keeps (with_tried r answer)
  tried r (Yes number) s all some forgets =
      through (with_child (child_tried s.flights r)) (child (child_tried s.flights r)) (without_flight r (on s all)) (without_flight r (on s some))
      (fewer r s all some forgets)
  tried r No s all some forgets = fewer r s all some forgets
  tried r Raised s all some forgets = fewer r s all some forgets
  tried r ParentDying s all some forgets = fewer r s all some forgets

  comes : (n : ℕ) (phase : Phase) → Keeps (with_activations (at_number n (come_to phase)))
  comes n phase = mapped (at_number n (come_to phase)) (still_come n phase) (where_later (λ a. a.number == n) (come_to phase) (later_come c phase))

  voids : (r n : ℕ) → Keeps (λ s. without_flight (Some r) (with_activations (at_number n (come_to Void)) s))
  voids r n s all some forgets = record { same = refl; forgets = (comes n Void s all some forgets).forgets }

  incarnated : (begun : Stage) (answer : Incarnation) → Keeps (with_incarnated c begun answer)
  incarnated (Incarnating r n) (Fresh m) s all some forgets = comes n (Complete (FreshServant n)) s all some forgets
  incarnated (Incarnating r n) (Named name) s all some forgets = comes n (servant_of c name) s all some forgets
  incarnated (Incarnating r n) Double s all some forgets = voids r n s all some forgets
  incarnated (Incarnating r n) (ForwardTo x) s all some forgets = voids r n s all some forgets
  incarnated (Incarnating r n) (Raise x) s all some forgets = voids r n s all some forgets
  incarnated Free answer s all some forgets = itself s all some forgets
  incarnated (Trying r) answer s all some forgets = itself s all some forgets
  incarnated (Serving r) answer s all some forgets = itself s all some forgets
  incarnated (Ran r) answer s all some forgets = itself s all some forgets
  incarnated (Removing n) answer s all some forgets = itself s all some forgets

  -- whether the servant remains is asked of all or of those that are kept
  taken : (n : ℕ) → Keeps (with_takeout n)
  taken n s all some forgets =
      subst (λ as'. StandsFor c (with_takeout n (on s all)) (on s as')) (sym (takes_alike n some all (elsewhere_alike all some forgets) some))
      (mapped (at_number n (λ a. record a { out = true; remaining = is_elsewhere all a })) (still_taken n all)
      (kept_numbers n (is_elsewhere all)) s all some forgets)

  told : (n : ℕ) → Keeps (with_activations (at_number n (λ a. record a { etherealized = true })))
  told n =
      mapped (at_number n (λ a. record a { etherealized = true })) (still_told n)
      (where_later (λ a. a.number == n) (λ a. record a { etherealized = true }) (later_told c))

  etherealized : (begun : Stage) → Keeps (with_etherealized begun)
  etherealized (Removing n) s all some forgets = told n s all some forgets
  etherealized Free s all some forgets = itself s all some forgets
  etherealized (Trying r) s all some forgets = itself s all some forgets
  etherealized (Incarnating r n) s all some forgets = itself s all some forgets
  etherealized (Serving r) s all some forgets = itself s all some forgets
  etherealized (Ran r) s all some forgets = itself s all some forgets

  keeps_changed : (run : ℕ) (past : List Entry) (e : Entry) → Keeps (changed c run past e)
  keeps_changed run past (Admit w r v) s all some forgets =
      through (with_command c run (command_done past (Admit w r v))) (commanded run (command_done past (Admit w r v)))
      (with_admitted r (key_in (call_of past r)) v (on s all)) (with_admitted r (key_in (call_of past r)) v (on s some))
      (admitted r (key_in (call_of past r)) v s all some forgets)
  keeps_changed run past (Tried w answer) s all some forgets = tried (arrival_in (stage past w)) answer s all some forgets
  keeps_changed run past (Incarnated w answer) s all some forgets = incarnated (stage past w) answer s all some forgets
  keeps_changed run past (Done w) s all some forgets = fewer (arrival_in (stage past w)) s all some forgets
  keeps_changed run past (TakeOut w n x) s all some forgets = taken n s all some forgets
  keeps_changed run past (Etherealized w x y) s all some forgets = etherealized (stage past w) s all some forgets
  keeps_changed run past (Entered conn) s all some forgets = itself s all some forgets
  keeps_changed run past (Arrive conn size call) s all some forgets = itself s all some forgets
  keeps_changed run past (Filled conn size) s all some forgets = itself s all some forgets
  keeps_changed run past (Left conn) s all some forgets = itself s all some forgets
  keeps_changed run past (Collect conn a) s all some forgets = itself s all some forgets
  keeps_changed run past (Run w) s all some forgets = itself s all some forgets
  keeps_changed run past (Abandon w) s all some forgets = itself s all some forgets

  filter_alike : (p q : Node → Bool) → ((n : Node) → p n ≡ q n) → (ns : List Node) → filter p ns ≡ filter q ns
  filter_alike p q alike [] = refl
  filter_alike p q alike (n ∷ ns) = ap₂ (λ b ms. cond b (n ∷ ms) ms) (alike n) (filter_alike p q alike ns)

  keeps_settled : Keeps (settled c)
  keeps_settled s all some forgets = record {
    same = ap (λ ns. record s { nodes = ns; activations = map (let_out c s) some }) (filter_alike _ _ goes s.nodes);
    forgets = left;
  }
    where
      left : Forgets c (map (let_out c s) all) (map (let_out c s) some)
      left = maps all some forgets (let_out c s) (still_in c s) (later_let_out c s)

      goes : (n : Node) → (is_root n.path || not (is_done_with c (on s (map (let_out c s) some)) n)) ≡
          (is_root n.path || not (is_done_with c (on s (map (let_out c s) all)) n))
      goes n =
          ap (λ b. is_root n.path || not (n.dying && (not (list_any (λ f. stands_under s.nodes n.path f.adapter) s.flights) && not b)))
          (lived_alike (map (let_out c s) all) (map (let_out c s) some) left s.nodes n.path)

  pub stands_changed : (run : ℕ) (past : List Entry) (e : Entry) (s t : Standing) → StandsFor c s t
      → StandsFor c (changed c run past e s) (changed c run past e t)
  stands_changed run past e = through (changed c run past e) (keeps_changed run past e)

  pub stands_settled : (s t : Standing) → StandsFor c s t → StandsFor c (settled c s) (settled c t)
  stands_settled = through (settled c) keeps_settled

  -- what is forgotten of what stands for another leaves it standing so
  pub stands_through : (s t u : Standing) → StandsFor c s t → StandsFor c t u → StandsFor c s u
  stands_through s t u one two = record {
    same = two.same ∙ ap {A = Standing} (λ x. record x { activations = u.activations }) one.same;
    forgets = record {
      begun = two.forgets.begun ∙ one.forgets.begun;
      lives = two.forgets.lives ∙ one.forgets.lives;
      known = λ a there. elim (two.forgets.known a there) [ inl spent ↦ inl spent | inr old ↦ one.forgets.known a old ];
    };
  }
