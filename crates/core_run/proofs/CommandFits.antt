-- The verdict on an administrator's command is its answer, or that it waits.
use Rattle.std.specs.Prelude.{◌≡◌, ℕ, suc, Bool, true, false, not, ◌&&◌, nat_le, if◌then◌else◌, List, [], ◌∷◌, Option, Some, None, is_some, is_none, refl}
use Rattle.std.specs.List.{list_any}
use Rattle.std.proofs.Common.{sym, ap, ◌∙◌}
use Rattle.std.proofs.lemmas.Bool.{cond_both}
use Rattle.poa_base.specs.declared.Config.{Config}
use Rattle.poa_base.specs.declared.Command.{Command}
use Rattle.poa_base.specs.declared.Command.TheVariants.{Manager, Create, Destroy, Activate, ActivateId, Deactivate, Reference, Preset as PresetLine, Forward as ForwardLine, Unforward, Shutdown, Bad}
use Rattle.poa_base.specs.declared.Order.{Order}
use Rattle.poa_base.specs.declared.Reason.TheVariants.{AdapterInactive, AdapterAlreadyExists, TooMany, ServantNotActive, AdapterNonExistent, NoServant, NoManager}
use Rattle.poa_base.specs.declared.Answer.TheVariants.{GoodIor}
use Rattle.poa_base.specs.declared.Verdict.{Verdict}
use Rattle.poa_base.specs.declared.Verdict.TheVariants.{Answer, Wait}
use Rattle.poa_base.specs.declared.Entry.{Entry}
use Rattle.history_standing.specs.declared.node.Node.{Node}
use Rattle.history_standing.specs.Nodes.{node_at}
use Rattle.history_standing.specs.Paths.{parent_path}
use Rattle.history_standing.specs.Templates.{template, policies_at, retains, makes_ids, uses_default_servant, manager_number, servant_number}
use Rattle.history_standing.specs.Standings.{Standing, is_active, is_of, is_tried}
use Rattle.history_standing.specs.Ends.{is_over}
use Rattle.history_standing.specs.Logs.{manager_state, endpoint_of}
use Rattle.history_standing.specs.Opening.{made_id}
use Rattle.history_standing.specs.References.{reference_text}
use Rattle.history_standing.specs.Commands.{refusal, good, good_or_wait, live_at, with_live, with_servant, is_taken, is_bad_id, waits, is_inactive, manager_row, create_row, activate_row, activate_id_row, deactivate_row, referred, is_implicit, reference_row, preset_row, command_verdict}

-- verdicts on commands
abbrev pub for_line : Verdict → Bool
for_line (Answer answer) = true
for_line Wait = true
for_line v = false

abbrev answered : Option Verdict → Bool
answered None = true
answered (Some v) = for_line v

abbrev Is : Option Verdict → Type 0
Is o = answered o ≡ true

if_test : (b : Bool) (x y : Option Verdict) → Is x → Is y → Is (if b then x else y)
if_test b x y one other = cond_both b x y Is (λ _. one) (λ _. other)

does_or_waits : (wait : Bool) → Is (good_or_wait wait)
does_or_waits true = refl
does_or_waits false = refl

where_live : (s : Standing) (p : List (List ℕ)) (then_ : Node → Option Verdict) → ((n : Node) → Is (then_ n)) → Is (with_live s p then_)
where_live s p then_ each = elim (live_at s p) as (λ o. Is (elim o [ Some n ↦ then_ n | None ↦ refusal AdapterNonExistent ])) [ Some n ↦ each n | None ↦ refl ]

where_servant : (c : Config) (name : List ℕ) (then_ : ℕ → Option Verdict) → ((k : ℕ) → Is (then_ k)) → Is (with_servant c name then_)
where_servant c name then_ each =
    elim (servant_number c name) as (λ o. Is (elim o [ Some k ↦ then_ k | None ↦ refusal NoServant ])) [ Some k ↦ each k | None ↦ refl ]

module _ (c : Config) (run : ℕ) (past : List Entry) (s : Standing) where
  by_manager : (name : List ℕ) (order : Order) → Is (manager_row c past name order)
  by_manager name order =
      elim (manager_number c name) as (λ o. Is
      (elim o [ None ↦ refusal NoManager | Some m ↦ (if is_inactive (manager_state c past m) then refusal AdapterInactive else good_or_wait (waits order)) ])) [
        | None ↦ refl
        | Some m ↦ if_test (is_inactive (manager_state c past m)) _ _ refl (does_or_waits (waits order))
      ]

  by_create : (p : List (List ℕ)) → Is (create_row c s p)
  by_create [] = refl
  by_create (x ∷ p) =
      where_live s (parent_path (x ∷ p)) _ (λ n. if_test (is_none (template c (x ∷ p))) _ _ refl
      (if_test (is_tried s.flights (x ∷ p)) _ _ refl
      (elim (node_at s.nodes (x ∷ p)) as (λ o. Is
      (elim o [
        | Some old ↦ (if old.dying then None else refusal AdapterAlreadyExists)
        | None ↦
            (if nat_le 65536 s.count then refusal (TooMany s.count) else good)
      ])) [
        | Some old ↦ if_test old.dying _ _ refl refl
        | None ↦ if_test (nat_le 65536 s.count) _ _ refl refl
      ])))

  by_activate : (p : List (List ℕ)) (servant : List ℕ) → Is (activate_row c run s p servant)
  by_activate p servant =
      where_live s p _ (λ n. if_test (not (retains (policies_at c p) && makes_ids (policies_at c p))) _ _ refl
      (where_servant c servant _ (λ k. if_test (is_taken c s n k) _ _ refl refl)))

  by_activate_id : (p : List (List ℕ)) (oid servant : List ℕ) → Is (activate_id_row c run s p oid servant)
  by_activate_id p oid servant =
      where_live s p _ (λ n. if_test (not (retains (policies_at c p))) _ _ refl
      (where_servant c servant _ (λ k. if_test (is_bad_id c run s.made p oid) _ _ refl
      (if_test (list_any (λ a. is_of n.number oid a && is_active a) s.activations) _ _ refl
      (if_test (list_any (λ a. is_of n.number oid a && not (is_over c a)) s.activations) _ _ refl
      (if_test (is_taken c s n k) _ _ refl refl))))))

  by_deactivate : (p : List (List ℕ)) (oid : List ℕ) → Is (deactivate_row c s p oid)
  by_deactivate p oid =
      where_live s p _ (λ n. if_test (not (retains (policies_at c p))) _ _ refl
      (if_test (list_any (λ a. is_of n.number oid a && is_active a) s.activations) _ _ refl refl))

  by_reference : (p : List (List ℕ)) (servant : List ℕ) → Is (reference_row c run s p servant)
  by_reference p servant =
      where_live s p _ (λ n. where_servant c servant _ (λ k.
      elim (referred c s n k) as (λ o. Is
      (elim o [
        | Some a ↦ Some (Answer (GoodIor (reference_text c run n.number p a.oid k)))
        | None ↦
            (if is_implicit c s n k then Some (Answer (GoodIor (reference_text c run n.number p (made_id run (suc s.made)) k))) else refusal ServantNotActive)
      ])) [
        | Some a ↦ refl
        | None ↦ if_test (is_implicit c s n k) _ _ refl refl
      ]))

  by_preset : (p : List (List ℕ)) (servant : List ℕ) → Is (preset_row c s p servant)
  by_preset p servant = where_live s p _ (λ n. if_test (not (uses_default_servant (policies_at c p))) _ _ refl (where_servant c servant _ (λ k. refl)))

  by_row : (command : Command) → Is (command_verdict c run past s command)
  unfolding command_verdict
  by_row (Manager name order) = by_manager name order
  by_row (Create p) = by_create p
  by_row (Destroy p etherealize wait) = where_live s p _ (λ n. does_or_waits wait)
  by_row (Activate p servant) = by_activate p servant
  by_row (ActivateId p oid servant) = by_activate_id p oid servant
  by_row (Deactivate p oid) = by_deactivate p oid
  by_row (Reference p servant) = by_reference p servant
  by_row (PresetLine p servant) = by_preset p servant
  by_row (ForwardLine p endpoint) = refl
  by_row (Unforward p) = if_test (is_some (endpoint_of c past p)) _ _ refl refl
  by_row Shutdown = where_live s [] _ (λ n. refl)
  by_row (Bad word) = refl

  pub command_fits : (command : Command) (v : Verdict) → command_verdict c run past s command ≡ Some v → for_line v ≡ true
  command_fits command v is = sym (ap answered is) ∙ by_row command
