-- The verdict on an administrator's command: done with its answer, refused for the first reason of its row, or held.
use Rattle.std.specs.Prelude.{ℕ, suc, Bool, true, false, not, ◌&&◌, ◌||◌, ◌==◌, nat_lt, nat_le, if◌then◌else◌, List, [], ◌∷◌, length, take, drop, find, Option, Some, None, is_some, is_none}
use Rattle.std.specs.List.{list_any}
use Rattle.std.specs.Int.{w32, from_be_bytes}
use Rattle.poa_base.specs.declared.limits.TheConstants.{ADAPTERS}
use Rattle.poa_base.specs.declared.Config.{Config}
use Rattle.poa_base.specs.declared.ManagerState.{ManagerState}
use Rattle.poa_base.specs.declared.ManagerState.TheVariants.{Inactive}
use Rattle.poa_base.specs.declared.Command.{Command}
use Rattle.poa_base.specs.declared.Command.TheVariants.{Manager, Create, Destroy, Activate, ActivateId, Deactivate, Reference, Preset, Forward, Unforward, Shutdown, Bad}
use Rattle.poa_base.specs.declared.Order.{Order}
use Rattle.poa_base.specs.declared.Order.TheVariants.{Hold, Discard, Deactivate as DeactivateAll, Activate as ActivateAll}
use Rattle.poa_base.specs.declared.Entry.{Entry}
use Rattle.poa_base.specs.declared.Verdict.{Verdict}
use Rattle.poa_base.specs.declared.Verdict.TheVariants.{Answer, Wait}
use Rattle.poa_base.specs.declared.Answer.TheVariants.{Good, GoodId, GoodIor, No}
use Rattle.poa_base.specs.declared.Reason.{Reason}
use Rattle.poa_base.specs.declared.Reason.TheVariants.{NoManager, AdapterInactive, AdapterNonExistent, NoTemplate, AdapterAlreadyExists, TooMany, WrongPolicy, NoServant, ServantAlreadyActive, BadId, ObjectAlreadyActive, ObjectNotActive, ServantNotActive, NoForward, BadWord}
use Rattle.poa_base.specs.declared.Sid.TheVariants.{Named}
use Rattle.history_standing.specs.declared.node.Node.{Node}
use Rattle.history_standing.specs.declared.activation.Activation.{Activation}
use Rattle.history_standing.specs.Paths.{parent_path}
use Rattle.history_standing.specs.Templates.{template, policies_at, retains, is_unique, makes_ids, activates_implicitly, uses_default_servant, manager_number, servant_number}
use Rattle.history_standing.specs.Standings.{Standing, is_active, is_mapped, has_servant, is_of, is_in_map, is_tried}
use Rattle.history_standing.specs.Nodes.{node_at}
use Rattle.history_standing.specs.Ends.{is_over}
use Rattle.history_standing.specs.Logs.{manager_state, endpoint_of}
use Rattle.history_standing.specs.Opening.{made_id}
use Rattle.history_standing.specs.References.{reference_text}

abbrev pub refusal : Reason → Option Verdict
refusal reason = Some (Answer (No reason))

abbrev pub good : Option Verdict
good = Some (Answer Good)

-- done at once, or with an answer that waits
abbrev pub good_or_wait : Bool → Option Verdict
good_or_wait wait = Some (if wait then Wait else Answer Good)

-- the adapter at the path, where it isn't being destroyed
abbrev pub live_at : Standing → List (List ℕ) → Option Node
live_at s p = elim (node_at s.nodes p) [ Some n ↦ (if n.dying then None else Some n) | None ↦ None ]

abbrev pub with_live : Standing → List (List ℕ) → (Node → Option Verdict) → Option Verdict
with_live s p then_ = elim (live_at s p) [ Some n ↦ then_ n | None ↦ refusal AdapterNonExistent ]

abbrev pub with_servant : Config → List ℕ → (ℕ → Option Verdict) → Option Verdict
with_servant c name then_ = elim (servant_number c name) [ Some k ↦ then_ k | None ↦ refusal NoServant ]

-- under UNIQUE_ID a servant has one activation at a time
abbrev pub is_taken : Config → Standing → Node → ℕ → Bool
is_taken c s n k = is_unique (policies_at c n.path) && is_in_map s.activations n.number (Named k)

-- under SYSTEM_ID an id is eight bytes; one of this run has an ordinal that was made
abbrev pub is_bad_id : Config → ℕ → ℕ → List (List ℕ) → List ℕ → Bool
is_bad_id c run made p oid =
    makes_ids (policies_at c p)
    && (not (length oid == 8)
    || ((from_be_bytes w32 (take 4 oid) == run)
    && ((from_be_bytes w32 (drop 4 oid) == 0) || nat_lt made (from_be_bytes w32 (drop 4 oid)))))

-- the order waits until what it concerns has ended
abbrev pub waits : Order → Bool
waits ActivateAll = false
waits (Hold wait) = wait
waits (Discard wait) = wait
waits (DeactivateAll etherealize wait) = wait

abbrev pub is_inactive : ManagerState → Bool
is_inactive Inactive = true
is_inactive state = false

abbrev pub manager_row : Config → List Entry → List ℕ → Order → Option Verdict
manager_row c past name order =
    elim (manager_number c name) [
      | None ↦ refusal NoManager
      | Some m ↦ (if is_inactive (manager_state c past m) then refusal AdapterInactive else good_or_wait (waits order))
    ]

-- held while the old adapter of the path is being destroyed, or an adapter activator is asked for it
abbrev pub create_row : Config → Standing → List (List ℕ) → Option Verdict
create_row c s [] = refusal AdapterAlreadyExists
create_row c s (x ∷ p) =
    with_live s (parent_path (x ∷ p)) (λ n.
    if is_none (template c (x ∷ p)) then refusal NoTemplate
    else if is_tried s.flights (x ∷ p) then None
    else elim (node_at s.nodes (x ∷ p)) [
      | Some old ↦ (if old.dying then None else refusal AdapterAlreadyExists)
      | None ↦ (if nat_le ADAPTERS s.count then refusal (TooMany s.count) else good)
    ])

abbrev pub activate_row : Config → ℕ → Standing → List (List ℕ) → List ℕ → Option Verdict
activate_row c run s p servant =
    with_live s p (λ n.
    if not (retains (policies_at c p) && makes_ids (policies_at c p)) then refusal WrongPolicy
    else with_servant c servant (λ k.
    if is_taken c s n k then refusal ServantAlreadyActive else Some (Answer (GoodId (made_id run (suc s.made))))))

-- an active one of the id refuses; one that is on its way in or out holds
abbrev pub activate_id_row : Config → ℕ → Standing → List (List ℕ) → List ℕ → List ℕ → Option Verdict
activate_id_row c run s p oid servant =
    with_live s p (λ n.
    if not (retains (policies_at c p)) then refusal WrongPolicy
    else with_servant c servant (λ k.
    if is_bad_id c run s.made p oid then refusal BadId
    else if list_any (λ a. is_of n.number oid a && is_active a) s.activations then refusal ObjectAlreadyActive
    else if list_any (λ a. is_of n.number oid a && not (is_over c a)) s.activations then None
    else if is_taken c s n k then refusal ServantAlreadyActive
    else good))

abbrev pub deactivate_row : Config → Standing → List (List ℕ) → List ℕ → Option Verdict
deactivate_row c s p oid =
    with_live s p (λ n.
    if not (retains (policies_at c p)) then refusal WrongPolicy
    else if list_any (λ a. is_of n.number oid a && is_active a) s.activations then good
    else refusal ObjectNotActive)

-- the activation by which a servant has its one reference
abbrev pub referred : Config → Standing → Node → ℕ → Option Activation
referred c s n k =
    if retains (policies_at c n.path) && is_unique (policies_at c n.path) then find
    (λ a. (a.adapter == n.number) && (is_mapped a && has_servant (Named k) a)) s.activations else None

-- the servant is activated under a system-made id
abbrev pub is_implicit : Config → Standing → Node → ℕ → Bool
is_implicit c s n k = is_none (referred c s n k) && (retains (policies_at c n.path) && activates_implicitly (policies_at c n.path))

-- the answer with the reference of an id
abbrev pub ior_row : Config → ℕ → Node → List (List ℕ) → List ℕ → ℕ → Option Verdict
ior_row c run n p oid k = Some (Answer (GoodIor (reference_text c run n.number p oid k)))

-- one that has no reference gets one under a system-made id, where its adapter activates implicitly
abbrev pub implicit_row : Config → ℕ → Standing → Node → List (List ℕ) → ℕ → Option Verdict
implicit_row c run s n p k =
    if is_implicit c s n k then ior_row c run n p (made_id run (suc s.made)) k else refusal ServantNotActive

-- the reference of a servant that the adapter knows or activates
abbrev pub servant_row : Config → ℕ → Standing → Node → List (List ℕ) → ℕ → Option Verdict
servant_row c run s n p k = elim (referred c s n k) [ Some a ↦ ior_row c run n p a.oid k | None ↦ implicit_row c run s n p k ]

abbrev pub reference_row : Config → ℕ → Standing → List (List ℕ) → List ℕ → Option Verdict
reference_row c run s p servant = with_live s p (λ n. with_servant c servant (λ k. servant_row c run s n p k))

abbrev pub preset_row : Config → Standing → List (List ℕ) → List ℕ → Option Verdict
preset_row c s p servant =
    with_live s p (λ n. if not (uses_default_servant (policies_at c p)) then refusal WrongPolicy else with_servant c servant (λ k. good))

-- none where the command is held
unfoldable pub command_verdict : Config → ℕ → List Entry → Standing → Command → Option Verdict
command_verdict c run past s (Manager name order) = manager_row c past name order
command_verdict c run past s (Create p) = create_row c s p
command_verdict c run past s (Destroy p etherealize wait) = with_live s p (λ n. good_or_wait wait)
command_verdict c run past s (Activate p servant) = activate_row c run s p servant
command_verdict c run past s (ActivateId p oid servant) = activate_id_row c run s p oid servant
command_verdict c run past s (Deactivate p oid) = deactivate_row c s p oid
command_verdict c run past s (Reference p servant) = reference_row c run s p servant
command_verdict c run past s (Preset p servant) = preset_row c s p servant
command_verdict c run past s (Forward p endpoint) = good
command_verdict c run past s (Unforward p) = if is_some (endpoint_of c past p) then good else refusal NoForward
command_verdict c run past s Shutdown = with_live s [] (λ n. good)
command_verdict c run past s (Bad word) = refusal (BadWord word)
