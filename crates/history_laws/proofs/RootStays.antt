-- The root stands from the start on, under its number.
use Rattle.poa_base.specs.declared.Attempt.{Attempt}
use Rattle.poa_base.specs.declared.Attempt.TheVariants.{Dying as ParentDying, No as NoChild, Raised, Yes}
use Rattle.poa_base.specs.declared.Command.{Command}
use Rattle.poa_base.specs.declared.Command.TheVariants.{Activate, ActivateId, Bad as BadLine, Create, Deactivate, Destroy, Forward as ForwardLine, Manager, Preset as PresetLine, Reference, Shutdown, Unforward}
use Rattle.poa_base.specs.declared.Config.{Config}
use Rattle.poa_base.specs.declared.Entry.{Entry}
use Rattle.poa_base.specs.declared.Entry.TheVariants.{Abandon, Admit, Arrive, Collect, Done, Entered, Etherealized, Filled, Incarnated, Left, Run, TakeOut, Tried}
use Rattle.poa_base.specs.declared.Incarnation.{Incarnation}
use Rattle.poa_base.specs.declared.Incarnation.TheVariants.{Double, Forward as ForwardTo, Fresh, Named, Raise}
use Rattle.poa_base.specs.declared.Order.TheVariants.{Activate as ActivateAll, Deactivate as DeactivateAll, Discard, Hold}
use Rattle.poa_history.proofs.NodesFrom.{nodes_admitted}
use Rattle.history_standing.specs.Arrivals.{call_of}
use Rattle.history_standing.specs.Changes.{changed, child_tried, standing, with_admitted, with_child, with_command, with_etherealized, with_incarnated, with_made_activation, with_manager_off, with_reference, with_tried, without_flight}
use Rattle.history_standing.specs.Commands.{is_implicit, live_at}
use Rattle.history_standing.specs.Ends.{is_done_with, let_out, settled}
use Rattle.history_standing.specs.Keys.{key_in}
use Rattle.history_standing.specs.Logs.{command_done}
use Rattle.history_standing.specs.Stages.{arrival_in, stage}
use Rattle.history_standing.specs.Standings.{Standing}
use Rattle.history_standing.specs.Templates.{manager_number, servant_number}
use Rattle.history_standing.specs.declared.stage.Stage.{Stage}
use Rattle.history_standing.specs.declared.stage.Stage.TheVariants.{Free, Incarnating, Ran, Removing, Serving, Trying}
use Rattle.history_standing.proofs.Members.{image_in, in_front, kept_in}
use Rattle.history_standing.proofs.TreeKept.{marked_number, marked_path}
use Rattle.history_standing.specs.Nodes.{created, marked}
use Rattle.history_standing.specs.Paths.{is_root}
use Rattle.history_standing.specs.Trees.{In}
use Rattle.history_standing.specs.declared.node.Node.{Node}
use Rattle.std.proofs.Common.{◌∙◌, ap, subst, sym}
use Rattle.std.proofs.lemmas.Bool.{cond_both}
use Rattle.std.specs.Prelude.{◌++◌, ◌||◌, ◌∷◌, ◌≡◌, List, None, Option, Some, [], false, if◌then◌else◌, map, not, refl, true, ℕ}

-- an entry leaves the adapters that stand, or creates one, or marks some as being destroyed
data NodesThen (s t : Standing) : Type 0 where
  as_they_were : t.nodes ≡ s.nodes → NodesThen s t
  one_created : (p : List (List ℕ)) → t.nodes ≡ created s.count p s.nodes → NodesThen s t
  some_marked : (p : List (List ℕ)) → t.nodes ≡ map (marked p) s.nodes → NodesThen s t

module _ (c : Config) (run : ℕ) where
  off_nodes : (s : Standing) (name : List ℕ) → NodesThen s (elim (manager_number c name) [ Some m ↦ with_manager_off c m s | None ↦ s ])
  off_nodes s name =
      elim (manager_number c name) as (λ o. NodesThen s (elim o as (λ _. Standing) [ Some m ↦ with_manager_off c m s | None ↦ s ]))
      [ Some m ↦ as_they_were refl | None ↦ as_they_were refl ]

  reference_nodes : (s : Standing) (p : List (List ℕ)) (servant : List ℕ) → NodesThen s (with_reference c run p servant s)
  reference_nodes s p servant =
      elim (live_at s p) as (λ o. NodesThen s
      (elim o as (λ _. Standing) [
        | Some n ↦ (elim (servant_number c servant) as (λ _. Standing) [
          | Some k ↦ (if is_implicit c s n k then with_made_activation c run p servant s else s)
          | None ↦ s
        ])
        | None ↦ s
      ])) [
        | Some n ↦ elim (servant_number c servant) as (λ o. NodesThen s (elim o as (λ _. Standing) [
          | Some k ↦
              (if is_implicit c s n k then with_made_activation c run p servant s else s)
          | None ↦ s
        ])) [
          | Some k ↦
              cond_both (is_implicit c s n k) (with_made_activation c run p servant s) s (λ t. NodesThen s t) (λ _. as_they_were refl) (λ _. as_they_were refl)
          | None ↦ as_they_were refl
        ]
        | None ↦ as_they_were refl
      ]

  command_nodes : (s : Standing) (d : Option Command) → NodesThen s (with_command c run d s)
  command_nodes s None = as_they_were refl
  command_nodes s (Some (Manager name ActivateAll)) = as_they_were refl
  command_nodes s (Some (Manager name (Hold wait))) = as_they_were refl
  command_nodes s (Some (Manager name (Discard wait))) = as_they_were refl
  command_nodes s (Some (Manager name (DeactivateAll true wait))) = off_nodes s name
  command_nodes s (Some (Manager name (DeactivateAll false wait))) = as_they_were refl
  command_nodes s (Some (Create p)) = one_created p refl
  command_nodes s (Some (Destroy p etherealize wait)) = some_marked p refl
  command_nodes s (Some (Activate p servant)) = as_they_were refl
  command_nodes s (Some (ActivateId p oid servant)) = as_they_were refl
  command_nodes s (Some (Deactivate p oid)) = as_they_were refl
  command_nodes s (Some (Reference p servant)) = reference_nodes s p servant
  command_nodes s (Some (PresetLine p servant)) = as_they_were refl
  command_nodes s (Some (ForwardLine p endpoint)) = as_they_were refl
  command_nodes s (Some (Unforward p)) = as_they_were refl
  command_nodes s (Some Shutdown) = some_marked [] refl
  command_nodes s (Some (BadLine word)) = as_they_were refl

  fewer_nodes : (s : Standing) (r : Option ℕ) → NodesThen s (without_flight r s)
  fewer_nodes s None = as_they_were refl
  fewer_nodes s (Some r) = as_they_were refl

  incarnated_nodes : (s : Standing) (b : Stage) (a : Incarnation) → NodesThen s (with_incarnated c b a s)
  incarnated_nodes s (Incarnating r n) (Fresh m) = as_they_were refl
  incarnated_nodes s (Incarnating r n) (Named name) = as_they_were refl
  incarnated_nodes s (Incarnating r n) Double = as_they_were refl
  incarnated_nodes s (Incarnating r n) (ForwardTo x) = as_they_were refl
  incarnated_nodes s (Incarnating r n) (Raise x) = as_they_were refl
  incarnated_nodes s Free a = as_they_were refl
  incarnated_nodes s (Trying r) a = as_they_were refl
  incarnated_nodes s (Serving r) a = as_they_were refl
  incarnated_nodes s (Ran r) a = as_they_were refl
  incarnated_nodes s (Removing n) a = as_they_were refl

  etherealized_nodes : (s : Standing) (b : Stage) → NodesThen s (with_etherealized b s)
  etherealized_nodes s Free = as_they_were refl
  etherealized_nodes s (Trying r) = as_they_were refl
  etherealized_nodes s (Incarnating r n) = as_they_were refl
  etherealized_nodes s (Serving r) = as_they_were refl
  etherealized_nodes s (Ran r) = as_they_were refl
  etherealized_nodes s (Removing n) = as_they_were refl

  -- the root is there after each of these
  abbrev HasRoot : Standing → ℕ → Type 0
  HasRoot t k = (m : Node) × In m t.nodes × (m.path ≡ []) × (m.number ≡ k)

  root_then : (s t : Standing) (m : Node) → In m s.nodes → m.path ≡ [] → NodesThen s t → HasRoot t m.number
  root_then s t m there at (as_they_were same) = (m, subst (In m) (sym same) there, at, refl)
  root_then s t m there at (one_created p same) = (m, subst (In m) (sym same) (in_front m _ s.nodes there), at, refl)
  root_then s t m there at (some_marked p same) =
      (marked p m, subst (In (marked p m)) (sym same) (image_in (marked p) m s.nodes there), marked_path p m ∙ at, marked_number p m)

  child_root : (s : Standing) (p : Option (List (List ℕ))) (m : Node) → In m s.nodes → m.path ≡ [] → HasRoot (with_child p s) m.number
  child_root s None m there at = (m, there, at, refl)
  child_root s (Some p) m there at = (m, in_front m _ s.nodes there, at, refl)

  tried_root : (s : Standing) (r : Option ℕ) (a : Attempt) (m : Node) → In m s.nodes → m.path ≡ [] → HasRoot (with_tried r a s) m.number
  tried_root s r (Yes n) m there at =
      (let fewer = root_then s (without_flight r s) m there at (fewer_nodes s r) in
      let with_ = child_root (without_flight r s) (child_tried s.flights r) fewer.0 fewer.1 fewer.2 in
      (with_.0, with_.1, with_.2, with_.3 ∙ fewer.3))
  tried_root s r NoChild m there at = root_then s (without_flight r s) m there at (fewer_nodes s r)
  tried_root s r Raised m there at = root_then s (without_flight r s) m there at (fewer_nodes s r)
  tried_root s r ParentDying m there at = root_then s (without_flight r s) m there at (fewer_nodes s r)

  changed_root : (past : List Entry) (s : Standing) (e : Entry) (m : Node) → In m s.nodes → m.path ≡ [] → HasRoot (changed c run past e s) m.number
  changed_root past s (Admit w r v) m there at =
      (let s1 = with_admitted r (key_in (call_of past r)) v s in
      root_then s1 (with_command c run (command_done past (Admit w r v)) s1) m
      (subst (In m) (sym (nodes_admitted c run r (key_in (call_of past r)) v s)) there) at (command_nodes s1 (command_done past (Admit w r v))))
  changed_root past s (Tried w a) m there at = tried_root s (arrival_in (stage past w)) a m there at
  changed_root past s (Incarnated w a) m there at = root_then s (with_incarnated c (stage past w) a s) m there at (incarnated_nodes s (stage past w) a)
  changed_root past s (Done w) m there at = root_then s (without_flight (arrival_in (stage past w)) s) m there at (fewer_nodes s (arrival_in (stage past w)))
  changed_root past s (Etherealized w x y) m there at = root_then s (with_etherealized (stage past w) s) m there at (etherealized_nodes s (stage past w))
  changed_root past s (Entered conn) m there at = (m, there, at, refl)
  changed_root past s (Arrive conn size call) m there at = (m, there, at, refl)
  changed_root past s (Filled conn size) m there at = (m, there, at, refl)
  changed_root past s (Left conn) m there at = (m, there, at, refl)
  changed_root past s (Collect conn a) m there at = (m, there, at, refl)
  changed_root past s (Run w) m there at = (m, there, at, refl)
  changed_root past s (TakeOut w n x) m there at = (m, there, at, refl)
  changed_root past s (Abandon w) m there at = (m, there, at, refl)

  -- and as what has ended goes, the root stays
  settled_root : (s : Standing) (m : Node) → In m s.nodes → m.path ≡ [] → In m (settled c s).nodes
  settled_root s m there at =
      kept_in (λ n. is_root n.path || not (is_done_with c (record s { activations = map (let_out c s) s.activations }) n)) m s.nodes there
      (ap (λ p. is_root p || not (is_done_with c (record s { activations = map (let_out c s) s.activations }) m)) at)

  pub root_since : (more past : List Entry) (m : Node) → In m (standing c run past).nodes → m.path ≡ [] → HasRoot (standing c run (more ++ past)) m.number
  root_since [] past m there at = (m, there, at, refl)
  root_since (e ∷ more) past m there at =
      let before = root_since more past m there at in
      let then_ = changed_root (more ++ past) (standing c run (more ++ past)) e before.0 before.1 before.2 in
      (then_.0, settled_root (changed c run (more ++ past) e (standing c run (more ++ past))) then_.0 then_.1 then_.2, then_.2, then_.3 ∙ before.3)
