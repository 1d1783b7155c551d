-- An adapter that stands stood before, or is new.
use Rattle.std.specs.Prelude.{◌≡◌, ℕ, suc, ◌≤◌, Bool, true, false, not, ◌||◌, if◌then◌else◌, List, [], ◌∷◌, map, Option, Some, None, refl}
use Rattle.std.proofs.Common.{inl, inr, sym, subst, ap, ◌∙◌, arith}
use Rattle.std.proofs.lemmas.Bool.{cond_both}
use Rattle.poa_base.specs.declared.Config.{Config}
use Rattle.poa_base.specs.declared.Key.{Key}
use Rattle.poa_base.specs.declared.Command.{Command}
use Rattle.poa_base.specs.declared.Command.TheVariants.{Manager, Create, Destroy, Activate, ActivateId, Deactivate, Reference, Preset as PresetLine, Forward as ForwardLine, Unforward, Shutdown, Bad}
use Rattle.poa_base.specs.declared.Order.TheVariants.{Activate as ActivateAll, Hold, Discard, Deactivate as DeactivateAll}
use Rattle.poa_base.specs.declared.Verdict.{Verdict}
use Rattle.poa_base.specs.declared.Verdict.TheVariants.{Serve, Preset, Locator, Incarnate, Try, Refuse, Forward, Addressing, Here, Unknown, Answer, Wait}
use Rattle.poa_base.specs.declared.Entry.{Entry}
use Rattle.poa_base.specs.declared.Entry.TheVariants.{Entered, Arrive, Filled, Left, Collect, Admit, Tried, Incarnated, Run, Done, TakeOut, Etherealized, Abandon}
use Rattle.poa_base.specs.declared.Attempt.{Attempt}
use Rattle.poa_base.specs.declared.Attempt.TheVariants.{Yes, No, Raised, Dying as ParentDying}
use Rattle.poa_base.specs.declared.Incarnation.{Incarnation}
use Rattle.poa_base.specs.declared.Incarnation.TheVariants.{Fresh, Named, Double, Forward as ForwardTo, Raise}
use Rattle.history_standing.specs.declared.node.Node.{Node}
use Rattle.history_standing.specs.declared.stage.Stage.{Stage}
use Rattle.history_standing.specs.declared.stage.Stage.TheVariants.{Free, Trying, Incarnating, Serving, Ran, Removing}
use Rattle.history_standing.specs.Templates.{manager_number, servant_number}
use Rattle.history_standing.specs.Arrivals.{call_of}
use Rattle.history_standing.specs.Stages.{stage, arrival_in}
use Rattle.history_standing.specs.Standings.{Standing}
use Rattle.history_standing.specs.Paths.{leads_to, is_root}
use Rattle.history_standing.specs.Nodes.{marked, created}
use Rattle.history_standing.specs.Trees.{In}
use Rattle.history_standing.specs.Ends.{is_done_with, let_out}
use Rattle.history_standing.specs.Keys.{key_in}
use Rattle.history_standing.specs.Logs.{command_done}
use Rattle.history_standing.specs.Commands.{is_implicit, live_at}
use Rattle.history_standing.specs.Changes.{standing, changed, with_admitted, with_made_activation, with_manager_off, with_reference, with_command, child_tried, with_child, without_flight, with_tried, with_incarnated, with_etherealized}
use Rattle.poa_history.specs.Destroyed.{destroys}
use Rattle.history_standing.proofs.Members.{in_either, in_image, in_kept}
use Rattle.history_standing.proofs.TreeKept.{marked_number, marked_path}
use Rattle.poa_history.proofs.Untouched.{nodes_in, count_in}

pub data NodeFrom (s : Standing) (command : Option Command) (n : Node) : Type 0 where
  -- it is dying where the command destroys it, or it was
  stood : (m : Node) → In m s.nodes → n.number ≡ m.number → n.path ≡ m.path → n.dying ≡ (destroys m.path command || m.dying) → NodeFrom s command n
  new : n.number ≡ s.count → n.dying ≡ false → NodeFrom s command n

abbrev dying_in : Node → Bool
dying_in n = n.dying

still : (s : Standing) (command : Option Command) (n : Node) → ((p : List (List ℕ)) → destroys p command ≡ false) → In n s.nodes → NodeFrom s command n
still s command n none there = stood n there refl refl (ap (λ b. b || n.dying) (sym (none n.path)))

module _ (s : Standing) (n : Node) where
  from_created : (command : Option Command) (p : List (List ℕ)) → ((q : List (List ℕ)) → destroys q command ≡ false) → In n (created s.count p s.nodes)
      → NodeFrom s command n
  from_created command p none there =
      elim (in_either n (record { number = s.count; path = p; dying = false }) s.nodes there) [
        | inl was ↦ still s command n none was
        | inr made ↦ new (ap (λ x. x.number) made) (ap (λ x. x.dying) made)
      ]

  marked_is : (p : List (List ℕ)) (m : Node) → (marked p m).dying ≡ (leads_to p m.path || m.dying)
  marked_is p m =
      elim (leads_to p m.path) as (λ b. dying_in (if b then record m { dying = true } else m) ≡ (b || m.dying)) [ true ↦ refl | false ↦ refl ]

  from_marked : (command : Option Command) (p : List (List ℕ)) → ((q : List (List ℕ)) → destroys q command ≡ leads_to p q) → In n (map (marked p) s.nodes)
      → NodeFrom s command n
  from_marked command p names there =
      let (m, was, same) = in_image (marked p) n s.nodes there in
      stood m was (ap (λ x. x.number) same ∙ marked_number p m) (ap (λ x. x.path) same ∙ marked_path p m)
      (ap (λ x. x.dying) same ∙ (marked_is p m ∙ ap (λ b. b || m.dying) (sym (names m.path))))

module _ (c : Config) (run : ℕ) where
  nodes_reference : (p : List (List ℕ)) (servant : List ℕ) (s : Standing) → (with_reference c run p servant s).nodes ≡ s.nodes
  nodes_reference p servant s =
      elim (live_at s p) as (λ o. nodes_in
      (elim o [
        | Some n ↦
            (elim (servant_number c servant) [ Some k ↦ (if is_implicit c s n k then with_made_activation c run p servant s else s) | None ↦ s ])
        | None ↦ s
      ]) ≡ s.nodes) [
        | Some n ↦ elim (servant_number c servant) as (λ o. nodes_in (elim o [
          | Some k ↦
              (if is_implicit c s n k then with_made_activation c run p servant s else s)
          | None ↦ s
        ]) ≡ s.nodes) [
          | Some k ↦ cond_both (is_implicit c s n k) (with_made_activation c run p servant s) s (λ t. t.nodes ≡ s.nodes) (λ _. refl) (λ _. refl)
          | None ↦ refl
        ]
        | None ↦ refl
      ]

  count_reference : (p : List (List ℕ)) (servant : List ℕ) (s : Standing) → (with_reference c run p servant s).count ≡ s.count
  count_reference p servant s =
      elim (live_at s p) as (λ o. count_in
      (elim o [
        | Some n ↦
            (elim (servant_number c servant) [ Some k ↦ (if is_implicit c s n k then with_made_activation c run p servant s else s) | None ↦ s ])
        | None ↦ s
      ]) ≡ s.count) [
        | Some n ↦ elim (servant_number c servant) as (λ o. count_in (elim o [
          | Some k ↦
              (if is_implicit c s n k then with_made_activation c run p servant s else s)
          | None ↦ s
        ]) ≡ s.count) [
          | Some k ↦ cond_both (is_implicit c s n k) (with_made_activation c run p servant s) s (λ t. t.count ≡ s.count) (λ _. refl) (λ _. refl)
          | None ↦ refl
        ]
        | None ↦ refl
      ]

  nodes_off : (name : List ℕ) (s : Standing) → nodes_in (elim (manager_number c name) [ Some m ↦ with_manager_off c m s | None ↦ s ]) ≡ s.nodes
  nodes_off name s =
      elim (manager_number c name) as (λ o. nodes_in (elim o [ Some m ↦ with_manager_off c m s | None ↦ s ]) ≡ s.nodes) [ Some m ↦ refl | None ↦ refl ]

  count_off : (name : List ℕ) (s : Standing) → count_in (elim (manager_number c name) [ Some m ↦ with_manager_off c m s | None ↦ s ]) ≡ s.count
  count_off name s =
      elim (manager_number c name) as (λ o. count_in (elim o [ Some m ↦ with_manager_off c m s | None ↦ s ]) ≡ s.count) [ Some m ↦ refl | None ↦ refl ]

  node_command : (command : Option Command) (s : Standing) (n : Node) → In n (with_command c run command s).nodes → NodeFrom s command n
  node_command None s n there = still s None n (λ p. refl) there
  node_command (Some (Manager name ActivateAll)) s n there = still s (Some (Manager name ActivateAll)) n (λ p. refl) there
  node_command (Some (Manager name (Hold wait))) s n there = still s (Some (Manager name (Hold wait))) n (λ p. refl) there
  node_command (Some (Manager name (Discard wait))) s n there = still s (Some (Manager name (Discard wait))) n (λ p. refl) there
  node_command (Some (Manager name (DeactivateAll true wait))) s n there =
      still s (Some (Manager name (DeactivateAll true wait))) n (λ p. refl) (subst (λ ns. In n ns) (nodes_off name s) there)
  node_command (Some (Manager name (DeactivateAll false wait))) s n there = still s (Some (Manager name (DeactivateAll false wait))) n (λ p. refl) there
  node_command (Some (Create p)) s n there = from_created s n (Some (Create p)) p (λ q. refl) there
  node_command (Some (Destroy p etherealize wait)) s n there = from_marked s n (Some (Destroy p etherealize wait)) p (λ q. refl) there
  node_command (Some (Activate p servant)) s n there = still s (Some (Activate p servant)) n (λ q. refl) there
  node_command (Some (ActivateId p oid servant)) s n there = still s (Some (ActivateId p oid servant)) n (λ q. refl) there
  node_command (Some (Deactivate p oid)) s n there = still s (Some (Deactivate p oid)) n (λ q. refl) there
  node_command (Some (Reference p servant)) s n there =
      still s (Some (Reference p servant)) n (λ q. refl) (subst (λ ns. In n ns) (nodes_reference p servant s) there)
  node_command (Some (PresetLine p servant)) s n there = still s (Some (PresetLine p servant)) n (λ q. refl) there
  node_command (Some (ForwardLine p endpoint)) s n there = still s (Some (ForwardLine p endpoint)) n (λ q. refl) there
  node_command (Some (Unforward p)) s n there = still s (Some (Unforward p)) n (λ q. refl) there
  node_command (Some Shutdown) s n there = from_marked s n (Some Shutdown) [] (λ q. refl) there
  node_command (Some (Bad word)) s n there = still s (Some (Bad word)) n (λ q. refl) there

  count_more : (n : ℕ) → n ≤ suc n
  count_more n = omega arith

  count_same : (n m : ℕ) → m ≡ n → n ≤ m
  count_same n m same = omega (arith, same)

  count_command : (command : Option Command) (s : Standing) → s.count ≤ (with_command c run command s).count
  count_command None s = count_same _ _ refl
  count_command (Some (Manager name ActivateAll)) s = count_same _ _ refl
  count_command (Some (Manager name (Hold wait))) s = count_same _ _ refl
  count_command (Some (Manager name (Discard wait))) s = count_same _ _ refl
  count_command (Some (Manager name (DeactivateAll true wait))) s = count_same _ _ (count_off name s)
  count_command (Some (Manager name (DeactivateAll false wait))) s = count_same _ _ refl
  count_command (Some (Create p)) s = count_more s.count
  count_command (Some (Destroy p etherealize wait)) s = count_same _ _ refl
  count_command (Some (Activate p servant)) s = count_same _ _ refl
  count_command (Some (ActivateId p oid servant)) s = count_same _ _ refl
  count_command (Some (Deactivate p oid)) s = count_same _ _ refl
  count_command (Some (Reference p servant)) s = count_same _ _ (count_reference p servant s)
  count_command (Some (PresetLine p servant)) s = count_same _ _ refl
  count_command (Some (ForwardLine p endpoint)) s = count_same _ _ refl
  count_command (Some (Unforward p)) s = count_same _ _ refl
  count_command (Some Shutdown) s = count_same _ _ refl
  count_command (Some (Bad word)) s = count_same _ _ refl

  pub nodes_admitted : (r : ℕ) (key : Option Key) (v : Verdict) (s : Standing) → (with_admitted r key v s).nodes ≡ s.nodes
  nodes_admitted r None v s = refl
  nodes_admitted r (Some key) (Serve n) s = refl
  nodes_admitted r (Some key) (Preset n) s = refl
  nodes_admitted r (Some key) (Locator n) s = refl
  nodes_admitted r (Some key) (Incarnate n) s = refl
  nodes_admitted r (Some key) Try s = refl
  nodes_admitted r (Some key) (Refuse x) s = refl
  nodes_admitted r (Some key) (Forward x) s = refl
  nodes_admitted r (Some key) Addressing s = refl
  nodes_admitted r (Some key) Here s = refl
  nodes_admitted r (Some key) Unknown s = refl
  nodes_admitted r (Some key) (Answer x) s = refl
  nodes_admitted r (Some key) Wait s = refl

  count_admitted : (r : ℕ) (key : Option Key) (v : Verdict) (s : Standing) → (with_admitted r key v s).count ≡ s.count
  count_admitted r None v s = refl
  count_admitted r (Some key) (Serve n) s = refl
  count_admitted r (Some key) (Preset n) s = refl
  count_admitted r (Some key) (Locator n) s = refl
  count_admitted r (Some key) (Incarnate n) s = refl
  count_admitted r (Some key) Try s = refl
  count_admitted r (Some key) (Refuse x) s = refl
  count_admitted r (Some key) (Forward x) s = refl
  count_admitted r (Some key) Addressing s = refl
  count_admitted r (Some key) Here s = refl
  count_admitted r (Some key) Unknown s = refl
  count_admitted r (Some key) (Answer x) s = refl
  count_admitted r (Some key) Wait s = refl

  -- an adapter that stood before the admission of its call stands so before the command
  moved : (s t : Standing) (command : Option Command) (n : Node) → t.nodes ≡ s.nodes → t.count ≡ s.count → NodeFrom t command n → NodeFrom s command n
  moved s t command n nodes count (stood m there number path dying) = stood m (subst (λ ns. In m ns) nodes there) number path dying
  moved s t command n nodes count (new number dying) = new (number ∙ count) dying

  nodes_fewer : (r : Option ℕ) (s : Standing) → (without_flight r s).nodes ≡ s.nodes
  nodes_fewer None s = refl
  nodes_fewer (Some r) s = refl

  count_fewer : (r : Option ℕ) (s : Standing) → (without_flight r s).count ≡ s.count
  count_fewer None s = refl
  count_fewer (Some r) s = refl

  node_child : (p : Option (List (List ℕ))) (s : Standing) (n : Node) → In n (with_child p s).nodes → NodeFrom s None n
  node_child None s n there = still s None n (λ q. refl) there
  node_child (Some p) s n there = from_created s n None p (λ q. refl) there

  count_child : (p : Option (List (List ℕ))) (s : Standing) → s.count ≤ (with_child p s).count
  count_child None s = count_same _ _ refl
  count_child (Some p) s = count_more s.count

  kept_fewer : (r : Option ℕ) (s : Standing) (n : Node) → In n (without_flight r s).nodes → NodeFrom s None n
  kept_fewer r s n there = still s None n (λ q. refl) (subst (λ ns. In n ns) (nodes_fewer r s) there)

  node_tried : (r : Option ℕ) (answer : Attempt) (s : Standing) (n : Node) → In n (with_tried r answer s).nodes → NodeFrom s None n
  node_tried r (Yes k) s n there =
      moved s (without_flight r s) None n (nodes_fewer r s) (count_fewer r s) (node_child (child_tried s.flights r) (without_flight r s) n there)
  node_tried r No s n there = kept_fewer r s n there
  node_tried r Raised s n there = kept_fewer r s n there
  node_tried r ParentDying s n there = kept_fewer r s n there

  count_tried : (r : Option ℕ) (answer : Attempt) (s : Standing) → s.count ≤ (with_tried r answer s).count
  count_tried r (Yes k) s = (let more = count_child (child_tried s.flights r) (without_flight r s) in let same = count_fewer r s in omega (arith, more, same))
  count_tried r No s = count_same _ _ (count_fewer r s)
  count_tried r Raised s = count_same _ _ (count_fewer r s)
  count_tried r ParentDying s = count_same _ _ (count_fewer r s)

  nodes_incarnated : (begun : Stage) (answer : Incarnation) (s : Standing) → (with_incarnated c begun answer s).nodes ≡ s.nodes
  nodes_incarnated (Incarnating r n) (Fresh m) s = refl
  nodes_incarnated (Incarnating r n) (Named name) s = refl
  nodes_incarnated (Incarnating r n) Double s = refl
  nodes_incarnated (Incarnating r n) (ForwardTo endpoint) s = refl
  nodes_incarnated (Incarnating r n) (Raise exception) s = refl
  nodes_incarnated Free answer s = refl
  nodes_incarnated (Trying r) answer s = refl
  nodes_incarnated (Serving r) answer s = refl
  nodes_incarnated (Ran r) answer s = refl
  nodes_incarnated (Removing n) answer s = refl

  count_incarnated : (begun : Stage) (answer : Incarnation) (s : Standing) → (with_incarnated c begun answer s).count ≡ s.count
  count_incarnated (Incarnating r n) (Fresh m) s = refl
  count_incarnated (Incarnating r n) (Named name) s = refl
  count_incarnated (Incarnating r n) Double s = refl
  count_incarnated (Incarnating r n) (ForwardTo endpoint) s = refl
  count_incarnated (Incarnating r n) (Raise exception) s = refl
  count_incarnated Free answer s = refl
  count_incarnated (Trying r) answer s = refl
  count_incarnated (Serving r) answer s = refl
  count_incarnated (Ran r) answer s = refl
  count_incarnated (Removing n) answer s = refl

  nodes_etherealized : (begun : Stage) (s : Standing) → (with_etherealized begun s).nodes ≡ s.nodes
  nodes_etherealized Free s = refl
  nodes_etherealized (Trying r) s = refl
  nodes_etherealized (Incarnating r n) s = refl
  nodes_etherealized (Serving r) s = refl
  nodes_etherealized (Ran r) s = refl
  nodes_etherealized (Removing n) s = refl

  count_etherealized : (begun : Stage) (s : Standing) → (with_etherealized begun s).count ≡ s.count
  count_etherealized Free s = refl
  count_etherealized (Trying r) s = refl
  count_etherealized (Incarnating r n) s = refl
  count_etherealized (Serving r) s = refl
  count_etherealized (Ran r) s = refl
  count_etherealized (Removing n) s = refl

  pub node_from : (past : List Entry) (e : Entry) (s : Standing) (n : Node) → In n (changed c run past e s).nodes → NodeFrom s (command_done past e) n
  node_from past (Entered conn) s n there = still s None n (λ q. refl) there
  node_from past (Arrive conn size call) s n there = still s None n (λ q. refl) there
  node_from past (Filled conn size) s n there = still s None n (λ q. refl) there
  node_from past (Left conn) s n there = still s None n (λ q. refl) there
  node_from past (Collect conn a) s n there = still s None n (λ q. refl) there
  node_from past (Admit w r v) s n there =
      moved s (with_admitted r (key_in (call_of past r)) v s) (command_done past (Admit w r v)) n (nodes_admitted r (key_in (call_of past r)) v s)
      (count_admitted r (key_in (call_of past r)) v s)
      (node_command (command_done past (Admit w r v)) (with_admitted r (key_in (call_of past r)) v s) n there)
  node_from past (Tried w a) s n there = node_tried (arrival_in (stage past w)) a s n there
  node_from past (Incarnated w a) s n there = still s None n (λ q. refl) (subst (λ ns. In n ns) (nodes_incarnated (stage past w) a s) there)
  node_from past (Run w) s n there = still s None n (λ q. refl) there
  node_from past (Done w) s n there = kept_fewer (arrival_in (stage past w)) s n there
  node_from past (TakeOut w k x) s n there = still s None n (λ q. refl) there
  node_from past (Etherealized w x y) s n there = still s None n (λ q. refl) (subst (λ ns. In n ns) (nodes_etherealized (stage past w) s) there)
  node_from past (Abandon w) s n there = still s None n (λ q. refl) there

  pub count_from : (past : List Entry) (e : Entry) (s : Standing) → s.count ≤ (changed c run past e s).count
  count_from past (Entered conn) s = count_same _ _ refl
  count_from past (Arrive conn size call) s = count_same _ _ refl
  count_from past (Filled conn size) s = count_same _ _ refl
  count_from past (Left conn) s = count_same _ _ refl
  count_from past (Collect conn a) s = count_same _ _ refl
  count_from past (Admit w r v) s =
      (let more = count_command (command_done past (Admit w r v)) (with_admitted r (key_in (call_of past r)) v s) in
      let same = count_admitted r (key_in (call_of past r)) v s in omega (arith, more, same))
  count_from past (Tried w a) s = count_tried (arrival_in (stage past w)) a s
  count_from past (Incarnated w a) s = count_same _ _ (count_incarnated (stage past w) a s)
  count_from past (Run w) s = count_same _ _ refl
  count_from past (Done w) s = count_same _ _ (count_fewer (arrival_in (stage past w)) s)
  count_from past (TakeOut w k x) s = count_same _ _ refl
  count_from past (Etherealized w x y) s = count_same _ _ (count_etherealized (stage past w) s)
  count_from past (Abandon w) s = count_same _ _ refl

  -- the same of what stands after the entry
  pub node_before : (past : List Entry) (e : Entry) (n : Node) → In n (standing c run (e ∷ past)).nodes → NodeFrom (standing c run past) (command_done past e) n
  node_before past e n there =
      let after : Standing =
      record (changed c run past e (standing c run past))
      { activations = map (let_out c (changed c run past e (standing c run past))) (changed c run past e (standing c run past)).activations } in
      node_from past e (standing c run past) n
      (in_kept (λ m. is_root m.path || not (is_done_with c after m)) n (changed c run past e (standing c run past)).nodes there).0
