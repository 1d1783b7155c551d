-- Where no worker has a next entry, no command is held.
use Rattle.history_laws.proofs.Idle.{all_landed, dying_gone, living_active}
use Rattle.history_laws.specs.Undone.{AreIdle}
use Rattle.poa_base.specs.declared.Answer.TheVariants.{GoodIor}
use Rattle.poa_base.specs.declared.Command.{Command}
use Rattle.poa_base.specs.declared.Command.TheVariants.{Activate, ActivateId, Bad as BadLine, Create, Deactivate, Destroy, Forward as ForwardLine, Manager, Preset as PresetLine, Reference, Shutdown, Unforward}
use Rattle.poa_base.specs.declared.Config.{Config}
use Rattle.poa_base.specs.declared.Entry.{Entry}
use Rattle.poa_base.specs.declared.Order.{Order}
use Rattle.poa_base.specs.declared.Reason.TheVariants.{AdapterAlreadyExists, AdapterInactive, AdapterNonExistent, BadId, NoForward, NoManager, NoServant, NoTemplate, ObjectAlreadyActive, ObjectNotActive, ServantAlreadyActive, ServantNotActive, TooMany, WrongPolicy}
use Rattle.poa_base.specs.declared.Verdict.{Verdict}
use Rattle.poa_base.specs.declared.Verdict.TheVariants.{Answer as AnswerNow}
use Rattle.history_standing.proofs.Members.{some_in}
use Rattle.poa_history.specs.Alone.{IsGivenAlone}
use Rattle.poa_history.specs.Bounds.{IsWithinLimits}
use Rattle.history_standing.specs.Changes.{standing}
use Rattle.history_standing.specs.Commands.{activate_id_row, activate_row, command_verdict, create_row, deactivate_row, good, good_or_wait, is_bad_id, is_implicit, is_inactive, is_taken, live_at, manager_row, preset_row, reference_row, referred, refusal, waits, with_live, with_servant}
use Rattle.history_standing.specs.Ends.{is_over}
use Rattle.poa_history.specs.Legal.{IsLegal}
use Rattle.history_standing.specs.Logs.{endpoint_of, manager_state}
use Rattle.history_standing.specs.Opening.{made_id}
use Rattle.history_standing.specs.References.{reference_text}
use Rattle.poa_history.specs.Sound.{IsGiven}
use Rattle.history_standing.specs.Standings.{Standing, is_active, is_of, is_tried}
use Rattle.history_standing.specs.Templates.{makes_ids, manager_number, policies_at, retains, servant_number, template, uses_default_servant}
use Rattle.history_standing.proofs.WalkStands.{node_found}
use Rattle.history_standing.specs.Nodes.{node_at}
use Rattle.history_standing.specs.Paths.{is_root, parent_path}
use Rattle.history_standing.specs.declared.node.Node.{Node}
use Rattle.std.proofs.Common.{◌∙◌, ap, ap₂, sym}
use Rattle.std.proofs.lemmas.Bool.{and_parts, cond_both, true≢false}
use Rattle.std.specs.List.{list_any}
use Rattle.std.specs.Prelude.{◌&&◌, ◌∷◌, ◌≡◌, Bool, List, None, Option, Some, [], false, if◌then◌else◌, is_none, is_some, nat_le, not, refl, suc, true, ℕ}
use Rattle.history_standing.proofs.Tests.{none_by, not_true}

-- the command gets an answer
abbrev Goes : Option Verdict → Type 0
Goes o = is_some o ≡ true

goes_if : (b : Bool) (x y : Option Verdict) → (b ≡ true → Goes x) → (b ≡ false → Goes y) → Goes (if b then x else y)
goes_if b x y one other = cond_both b x y Goes one other

goes_live : (s : Standing) (p : List (List ℕ)) (then_ : Node → Option Verdict) → ((n : Node) → Goes (then_ n)) → Goes (with_live s p then_)
goes_live s p then_ each = elim (live_at s p) as (λ o. Goes (elim o [ Some n ↦ then_ n | None ↦ refusal AdapterNonExistent ])) [ Some n ↦ each n | None ↦ refl ]

goes_known : (c : Config) (name : List ℕ) (then_ : ℕ → Option Verdict) → ((k : ℕ) → Goes (then_ k)) → Goes (with_servant c name then_)
goes_known c name then_ each =
    elim (servant_number c name) as (λ o. Goes (elim o [ Some k ↦ then_ k | None ↦ refusal NoServant ])) [ Some k ↦ each k | None ↦ refl ]

module _ (c : Config) (run limit : ℕ) (given : IsGiven c run) (alone : IsGivenAlone c run) (within : IsWithinLimits c limit) (h : List Entry)
    (legal : IsLegal c run limit h) (idle : AreIdle c run h) where
  abbrev s : Standing
  s = standing c run h

  manager_goes : (name : List ℕ) (order : Order) → Goes (manager_row c h name order)
  manager_goes name order =
      elim (manager_number c name) as (λ o. Goes
      (elim o [ None ↦ refusal NoManager | Some m ↦ (if is_inactive (manager_state c h m) then refusal AdapterInactive else good_or_wait (waits order)) ])) [
        | None ↦ refl
        | Some m ↦ goes_if (is_inactive (manager_state c h m)) (refusal AdapterInactive) (good_or_wait (waits order)) (λ _. refl) (λ _. refl)
      ]

  -- an adapter that was destroyed stands no longer, but for the root
  create_goes : (p : List (List ℕ)) → Goes (create_row c s p)
  create_goes [] = refl
  create_goes (x ∷ p) =
      goes_live s (parent_path (x ∷ p)) _ (λ n. goes_if (is_none (template c (x ∷ p))) (refusal NoTemplate) _ (λ _. refl)
      (λ _. goes_if (is_tried s.flights (x ∷ p)) None _
      (λ tried. absurd (true≢false (sym tried ∙ ap (λ fs. is_tried fs (x ∷ p)) (all_landed c run limit given alone within h legal idle))))
      (λ _. elim
      (node_at s.nodes (x ∷ p)) as (λ o. node_at s.nodes (x ∷ p) ≡ o
      → Goes (elim o
      [ Some old ↦ (if old.dying then None else refusal AdapterAlreadyExists) | None ↦ (if nat_le 65536 s.count then refusal (TooMany s.count) else good) ])) [
        | Some old ↦ λ found. goes_if old.dying None (refusal AdapterAlreadyExists)
            (λ dying. (let there = node_found s.nodes (x ∷ p) old found in
            let root = (dying_gone c run limit given alone within h legal idle old there.0 dying).0 in
            absurd (true≢false (sym root ∙ ap is_root there.1))))
            (λ _. refl)
        | None ↦ λ _. goes_if (nat_le 65536 s.count) (refusal (TooMany s.count)) good (λ _. refl) (λ _. refl)
      ] refl)))

  activate_goes : (p : List (List ℕ)) (servant : List ℕ) → Goes (activate_row c run s p servant)
  activate_goes p servant =
      goes_live s p _ (λ n. goes_if (not (retains (policies_at c p) && makes_ids (policies_at c p))) (refusal WrongPolicy) _ (λ _. refl)
      (λ _. goes_known c servant _ (λ k. goes_if (is_taken c s n k) (refusal ServantAlreadyActive) _ (λ _. refl) (λ _. refl))))

  -- an activation of the id that isn't over is active, and so refuses the command
  activate_id_goes : (p : List (List ℕ)) (oid servant : List ℕ) → Goes (activate_id_row c run s p oid servant)
  activate_id_goes p oid servant =
      goes_live s p _ (λ n. goes_if (not (retains (policies_at c p))) (refusal WrongPolicy) _ (λ _. refl)
      (λ _. goes_known c servant _ (λ k. goes_if (is_bad_id c run s.made p oid) (refusal BadId) _ (λ _. refl)
      (λ _. goes_if (list_any (λ a. is_of n.number oid a && is_active a) s.activations) (refusal ObjectAlreadyActive) _ (λ _. refl)
      (λ none. goes_if (list_any (λ a. is_of n.number oid a && not (is_over c a)) s.activations) None _
      (λ some_. (let a = some_in (λ x. is_of n.number oid x && not (is_over c x)) s.activations some_ in
      let parts = and_parts (is_of n.number oid a.0) (not (is_over c a.0)) a.2 in
      absurd (true≢false
      (sym (ap₂ (λ x y. x && y) parts.0 (living_active c run limit given alone within h legal idle a.0 a.1 (not_true (is_over c a.0) parts.1)))
      ∙ none_by (λ x. is_of n.number oid x && is_active x) a.0 s.activations a.1 none))))
      (λ _. goes_if (is_taken c s n k) (refusal ServantAlreadyActive) good (λ _. refl) (λ _. refl)))))))

  deactivate_goes : (p : List (List ℕ)) (oid : List ℕ) → Goes (deactivate_row c s p oid)
  deactivate_goes p oid =
      goes_live s p _ (λ n. goes_if (not (retains (policies_at c p))) (refusal WrongPolicy) _ (λ _. refl)
      (λ _. goes_if (list_any (λ a. is_of n.number oid a && is_active a) s.activations) good (refusal ObjectNotActive) (λ _. refl) (λ _. refl)))

  reference_goes : (p : List (List ℕ)) (servant : List ℕ) → Goes (reference_row c run s p servant)
  reference_goes p servant =
      goes_live s p _ (λ n. goes_known c servant _ (λ k.
      elim (referred c s n k) as (λ o. Goes (elim o [
        | Some a ↦ Some (AnswerNow (GoodIor (reference_text c run n.number p a.oid k)))
        | None ↦
            (if is_implicit c s n k then Some (AnswerNow (GoodIor (reference_text c run n.number p (made_id run (suc s.made)) k))) else refusal
            ServantNotActive)
      ])) [ Some a ↦ refl | None ↦ goes_if (is_implicit c s n k) _ (refusal ServantNotActive) (λ _. refl) (λ _. refl) ]))

  preset_goes : (p : List (List ℕ)) (servant : List ℕ) → Goes (preset_row c s p servant)
  preset_goes p servant =
      goes_live s p _
      (λ n. goes_if (not (uses_default_servant (policies_at c p))) (refusal WrongPolicy) _ (λ _. refl) (λ _. goes_known c servant _ (λ k. refl)))

  pub commands_go : (d : Command) → Goes (command_verdict c run h s d)
  unfolding command_verdict
  commands_go (Manager name order) = manager_goes name order
  commands_go (Create p) = create_goes p
  commands_go (Destroy p etherealize wait) = goes_live s p _ (λ n. refl)
  commands_go (Activate p servant) = activate_goes p servant
  commands_go (ActivateId p oid servant) = activate_id_goes p oid servant
  commands_go (Deactivate p oid) = deactivate_goes p oid
  commands_go (Reference p servant) = reference_goes p servant
  commands_go (PresetLine p servant) = preset_goes p servant
  commands_go (ForwardLine p endpoint) = refl
  commands_go (Unforward p) = goes_if (is_some (endpoint_of c h p)) good (refusal NoForward) (λ _. refl) (λ _. refl)
  commands_go Shutdown = goes_live s [] _ (λ n. refl)
  commands_go (BadLine word) = refl
