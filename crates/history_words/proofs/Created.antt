-- What an entry creates: one adapter, with the next number and its path, or none.
use Rattle.std.specs.Prelude.{◌≡◌, ℕ, suc, true, false, not, ◌||◌, if◌then◌else◌, List, [], ◌∷◌, map, Option, Some, None, refl}
use Rattle.std.proofs.Common.{inl, inr, subst, ap, ◌∙◌}
use Rattle.std.proofs.lemmas.Bool.{cond_both}
use Rattle.poa_base.specs.declared.Config.{Config}
use Rattle.poa_base.specs.declared.Command.{Command}
use Rattle.poa_base.specs.declared.Command.TheVariants.{Manager, Create, Destroy, Activate, ActivateId, Deactivate, Reference, Preset as PresetLine}
use Rattle.poa_base.specs.declared.Command.TheVariants.{Forward as ForwardLine, Unforward, Shutdown, Bad}
use Rattle.poa_base.specs.declared.Order.TheVariants.{Activate as ActivateAll, Hold, Discard, Deactivate as DeactivateAll}
use Rattle.poa_base.specs.declared.Entry.{Entry}
use Rattle.poa_base.specs.declared.Entry.TheVariants.{Entered, Arrive, Filled, Left, Collect, Admit, Tried, Incarnated}
use Rattle.poa_base.specs.declared.Entry.TheVariants.{Run, Done, TakeOut, Etherealized, Abandon}
use Rattle.poa_base.specs.declared.Attempt.TheVariants.{Yes, No, Raised, Dying as ParentDying}
use Rattle.history_standing.specs.declared.node.Node.{Node}
use Rattle.history_standing.specs.Nodes.{marked, created}
use Rattle.history_standing.specs.Paths.{is_root}
use Rattle.history_standing.specs.Trees.{In}
use Rattle.history_standing.proofs.Members.{in_either, in_image, in_kept}
use Rattle.history_standing.proofs.TreeKept.{marked_number, marked_path}
use Rattle.history_standing.specs.Arrivals.{call_of}
use Rattle.history_standing.specs.Changes.{standing, changed, with_admitted, with_made_activation, with_manager_off, with_reference, with_command, child_tried, with_child, without_flight}
use Rattle.history_standing.specs.Commands.{is_implicit, live_at}
use Rattle.history_standing.specs.Ends.{is_done_with, let_out}
use Rattle.history_standing.specs.Keys.{key_in}
use Rattle.history_standing.specs.Logs.{command_done}
use Rattle.history_standing.specs.Stages.{stage, arrival_in}
use Rattle.history_standing.specs.Standings.{Standing}
use Rattle.history_standing.specs.Templates.{manager_number, servant_number}
use Rattle.history_words.specs.Creations.{path_ordered, path_created}
use Rattle.history_words.proofs.Still.{kept_in, still_admitted, still_fewer, still_incarnated, still_etherealized}

-- the adapter stood before, or it is created at this path
pub data StandsFrom (s : Standing) (made : Option (List (List ℕ))) (n : Node) : Type 0 where
  stood : (m : Node) → In m s.nodes → n.number ≡ m.number → n.path ≡ m.path → StandsFrom s made n
  new : (p : List (List ℕ)) → made ≡ Some p → n.number ≡ s.count → n.path ≡ p → StandsFrom s made n

-- how many were created by then
abbrev pub count_after : ℕ → Option (List (List ℕ)) → ℕ
count_after count (Some p) = suc count
count_after count None = count

pub record Creates (s t : Standing) (made : Option (List (List ℕ))) : Type 0 where
  pub count : t.count ≡ count_after s.count made
  pub nodes : (n : Node) → In n t.nodes → StandsFrom s made n

creates_none : (s t : Standing) → kept_in t ≡ kept_in s → Creates s t None
creates_none s t same = record { count = ap (λ k. k.1) same; nodes = λ n there. stood n (subst (λ ns. In n ns) (ap (λ k. k.0) same) there) refl refl }

creates_one : (s t : Standing) (p : List (List ℕ)) → t.nodes ≡ created s.count p s.nodes → t.count ≡ suc s.count → Creates s t (Some p)
creates_one s t p nodes count = record { count = count; nodes = λ n there. from n (subst (λ ns. In n ns) nodes there) }
  where
    from : (n : Node) → In n (created s.count p s.nodes) → StandsFrom s (Some p) n
    from n there =
        elim (in_either n (record { number = s.count; path = p; dying = false }) s.nodes there)
        [ inl was ↦ stood n was refl refl | inr made ↦ new p refl (ap (λ x. x.number) made) (ap (λ x. x.path) made) ]

marks : (s t : Standing) (p : List (List ℕ)) → t.nodes ≡ map (marked p) s.nodes → t.count ≡ s.count → Creates s t None
marks s t p nodes count = record { count = count; nodes = λ n there. from n (subst (λ ns. In n ns) nodes there) }
  where
    from : (n : Node) → In n (map (marked p) s.nodes) → StandsFrom s None n
    from n there =
        (let (m, was, same) = in_image (marked p) n s.nodes there in stood m was (ap (λ x. x.number) same ∙ marked_number p m)
        (ap (λ x. x.path) same ∙ marked_path p m))

-- behind what leaves the adapters
behind : (s t u : Standing) (made : Option (List (List ℕ))) → kept_in t ≡ kept_in s → Creates t u made → Creates s u made
behind s t u made same creates = record {
  count = creates.count ∙ ap (λ k. count_after k.1 made) same;
  nodes = λ n there. elim (creates.nodes n there) [
    | stood m was number path ↦ stood m (subst (λ ns. In m ns) (ap (λ k. k.0) same) was) number path
    | new p is number path ↦ new p is (number ∙ ap (λ k. k.1) same) path
  ];
}

module _ (c : Config) (run : ℕ) where
  still_reference : (p : List (List ℕ)) (servant : List ℕ) (s : Standing) → Creates s (with_reference c run p servant s) None
  still_reference p servant s =
      elim (live_at s p) as
      (λ o. Creates s
      (elim o [
        | Some n ↦
            (elim (servant_number c servant)
            [ Some k ↦ (if is_implicit c s n k then with_made_activation c run p servant s else s) | None ↦ s ])
        | None ↦ s
      ]) None) [
        | Some n ↦ elim (servant_number c servant) as
            (λ o. Creates s (elim o [ Some k ↦ (if is_implicit c s n k then with_made_activation c run p servant s else s) | None ↦ s ]) None) [
              | Some k ↦ cond_both (is_implicit c s n k) (with_made_activation c run p servant s) s (λ t. Creates s t None)
                  (λ _. marks_none (with_made_activation c run p servant s) refl refl) (λ _. creates_none s s refl)
              | None ↦ creates_none s s refl
            ]
        | None ↦ creates_none s s refl
      ]
    where
      marks_none : (t : Standing) → t.nodes ≡ s.nodes → t.count ≡ s.count → Creates s t None
      marks_none t nodes count = record { count = count; nodes = λ n there. stood n (subst (λ ns. In n ns) nodes there) refl refl }

  still_off : (name : List ℕ) (s : Standing) → Creates s (elim (manager_number c name) [ Some m ↦ with_manager_off c m s | None ↦ s ]) None
  still_off name s =
      elim (manager_number c name) as (λ o. Creates s (elim o [ Some m ↦ with_manager_off c m s | None ↦ s ]) None)
      [ Some m ↦ creates_none s (with_manager_off c m s) refl | None ↦ creates_none s s refl ]

  by_command : (d : Option Command) (s : Standing) → Creates s (with_command c run d s) (path_ordered d)
  by_command None s = creates_none s s refl
  by_command (Some (Manager name ActivateAll)) s = creates_none s s refl
  by_command (Some (Manager name (Hold wait))) s = creates_none s s refl
  by_command (Some (Manager name (Discard wait))) s = creates_none s s refl
  by_command (Some (Manager name (DeactivateAll true wait))) s = still_off name s
  by_command (Some (Manager name (DeactivateAll false wait))) s = creates_none s s refl
  by_command (Some (Create p)) s = creates_one s (with_command c run (Some (Create p)) s) p refl refl
  by_command (Some (Destroy p etherealize wait)) s = marks s (with_command c run (Some (Destroy p etherealize wait)) s) p refl refl
  by_command (Some (Activate p servant)) s = record { count = refl; nodes = λ n there. stood n there refl refl }
  by_command (Some (ActivateId p oid servant)) s = creates_none s (with_command c run (Some (ActivateId p oid servant)) s) refl
  by_command (Some (Deactivate p oid)) s = creates_none s (with_command c run (Some (Deactivate p oid)) s) refl
  by_command (Some (Reference p servant)) s = still_reference p servant s
  by_command (Some (PresetLine p servant)) s = creates_none s s refl
  by_command (Some (ForwardLine p endpoint)) s = creates_none s s refl
  by_command (Some (Unforward p)) s = creates_none s s refl
  by_command (Some Shutdown) s = marks s (with_command c run (Some Shutdown) s) [] refl refl
  by_command (Some (Bad word)) s = creates_none s s refl

  by_child : (p : Option (List (List ℕ))) (s : Standing) → Creates s (with_child p s) p
  by_child None s = creates_none s s refl
  by_child (Some p) s = creates_one s (with_child (Some p) s) p refl refl

  -- where the activator said yes, the child that it was asked for is known
  abbrev pub KnowsChild : List Entry → Entry → Type 0
  KnowsChild past (Tried w (Yes k)) = child_tried (standing c run past).flights (arrival_in (stage past w)) ≡ path_created c run past (Tried w (Yes k))
  KnowsChild past e = Unit {0}

  by_entry : (past : List Entry) (e : Entry) → KnowsChild past e
      → Creates (standing c run past) (changed c run past e (standing c run past)) (path_created c run past e)
  by_entry past (Entered conn) knows = creates_none _ _ refl
  by_entry past (Arrive conn size call) knows = creates_none _ _ refl
  by_entry past (Filled conn size) knows = creates_none _ _ refl
  by_entry past (Left conn) knows = creates_none _ _ refl
  by_entry past (Collect conn a) knows = creates_none _ _ refl
  by_entry past (Admit w r v) knows =
      behind (standing c run past) (with_admitted r (key_in (call_of past r)) v (standing c run past)) _ (path_ordered (command_done past (Admit w r v)))
      (still_admitted r (key_in (call_of past r)) v (standing c run past))
      (by_command (command_done past (Admit w r v)) (with_admitted r (key_in (call_of past r)) v (standing c run past)))
  by_entry past (Tried w (Yes k)) knows =
      subst (λ made. Creates (standing c run past) (changed c run past (Tried w (Yes k)) (standing c run past)) made) knows
      (behind (standing c run past) (without_flight (arrival_in (stage past w)) (standing c run past)) _
      (child_tried (standing c run past).flights (arrival_in (stage past w)))
      (still_fewer (arrival_in (stage past w)) (standing c run past))
      (by_child (child_tried (standing c run past).flights (arrival_in (stage past w))) (without_flight (arrival_in (stage past w)) (standing c run past))))
  by_entry past (Tried w No) knows = creates_none _ _ (still_fewer (arrival_in (stage past w)) (standing c run past))
  by_entry past (Tried w Raised) knows = creates_none _ _ (still_fewer (arrival_in (stage past w)) (standing c run past))
  by_entry past (Tried w ParentDying) knows = creates_none _ _ (still_fewer (arrival_in (stage past w)) (standing c run past))
  by_entry past (Incarnated w a) knows = creates_none _ _ (still_incarnated c (stage past w) a (standing c run past))
  by_entry past (Run w) knows = creates_none _ _ refl
  by_entry past (Done w) knows = creates_none _ _ (still_fewer (arrival_in (stage past w)) (standing c run past))
  by_entry past (TakeOut w n x) knows = creates_none _ _ refl
  by_entry past (Etherealized w x y) knows = creates_none _ _ (still_etherealized (stage past w) (standing c run past))
  by_entry past (Abandon w) knows = creates_none _ _ refl

  -- and after what has ended went
  pub creates : (past : List Entry) (e : Entry) → KnowsChild past e → Creates (standing c run past) (standing c run (e ∷ past)) (path_created c run past e)
  creates past e knows =
      let t = changed c run past e (standing c run past) in
      let after : Standing = record t { activations = map (let_out c t) t.activations } in
      let all = by_entry past e knows in
      record { count = all.count; nodes = λ n there. all.nodes n (in_kept (λ m. is_root m.path || not (is_done_with c after m)) n t.nodes there).0 }
