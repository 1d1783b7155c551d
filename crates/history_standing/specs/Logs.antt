-- What the administrator's commands have set: manager states, default servants, endpoints.
use Rattle.std.specs.Prelude.{ℕ, pred, Bool, true, false, ◌==◌, if◌then◌else◌, List, [], ◌∷◌, ◌++◌, find, Option, Some, None, option_map, option_and_then, slice_get}
use Rattle.poa_base.specs.declared.Config.{Config}
use Rattle.poa_base.specs.declared.Endpoint.{Endpoint}
use Rattle.poa_base.specs.declared.ManagerState.{ManagerState}
use Rattle.poa_base.specs.declared.ManagerState.TheVariants.{Holding, Active, Discarding, Inactive}
use Rattle.poa_base.specs.declared.Call.{Call}
use Rattle.poa_base.specs.declared.Call.TheVariants.{Line}
use Rattle.poa_base.specs.declared.Command.{Command}
use Rattle.poa_base.specs.declared.Command.TheVariants.{Manager, Preset, Forward, Unforward}
use Rattle.poa_base.specs.declared.Order.{Order}
use Rattle.poa_base.specs.declared.Order.TheVariants.{Activate, Hold, Discard, Deactivate}
use Rattle.poa_base.specs.declared.Entry.{Entry}
use Rattle.poa_base.specs.declared.Entry.TheVariants.{Admit}
use Rattle.poa_base.specs.declared.Verdict.{Verdict}
use Rattle.poa_base.specs.declared.Verdict.TheVariants.{Answer, Wait}
use Rattle.poa_base.specs.declared.Answer.TheVariants.{No}
use Rattle.history_standing.specs.Paths.{same_path}
use Rattle.history_standing.specs.Templates.{template_or_root, manager_number}
use Rattle.history_standing.specs.Arrivals.{call_of}

-- the command was done: answered ok, or with an answer that waits
abbrev pub is_accepted : Verdict → Bool
is_accepted (Answer (No reason)) = false
is_accepted (Answer a) = true
is_accepted Wait = true
is_accepted v = false

-- the command of a call
abbrev pub command_in : Option Call → Option Command
command_in (Some (Line number command)) = Some command
command_in call = None

-- the command that an entry does
abbrev pub command_done : List Entry → Entry → Option Command
command_done past (Admit w r verdict) = if is_accepted verdict then command_in (call_of past r) else None
command_done past e = None

-- CORBA 3.3 Part 1, section 15.3.2: the states of a POA manager
abbrev pub ordered_state : Order → ManagerState
ordered_state Activate = Active
ordered_state (Hold wait) = Holding
ordered_state (Discard wait) = Discarding
ordered_state (Deactivate etherealize wait) = Inactive

-- what a command orders the manager of this number
abbrev pub order_for : Config → ℕ → Option Command → Option Order
order_for c m (Some (Manager name order)) = elim (manager_number c name) [ Some k ↦ (if k == m then Some order else None) | None ↦ None ]
order_for c m command = None

abbrev pub start_of : Config → ℕ → ManagerState
start_of c m = if m == 0 then c.root else elim (slice_get c.managers (pred m)) [ Some conf ↦ conf.start | None ↦ Holding ]

-- the state of the last command on the manager that was done, else the configured start
abbrev pub manager_state : Config → List Entry → ℕ → ManagerState
manager_state c [] m = start_of c m
manager_state c (e ∷ past) m =
    elim (order_for c m (command_done past e)) [ Some order ↦ ordered_state order | None ↦ manager_state c past m ]

-- what a command sets as the default servant of a path
abbrev pub preset_by : List (List ℕ) → Option Command → Option (List ℕ)
preset_by p (Some (Preset q servant)) = if same_path q p then Some servant else None
preset_by p command = None

-- the default servant of a path: that of the last `default` done on it, else the configured one
abbrev pub preset_of : Config → List Entry → List (List ℕ) → Option (List ℕ)
preset_of c [] p = option_and_then (λ k. option_map (λ s. s.name) (slice_get c.servants k)) (template_or_root c p).preset
preset_of c (e ∷ past) p = elim (preset_by p (command_done past e)) [ Some servant ↦ Some servant | None ↦ preset_of c past p ]

-- what a command does to the endpoint of a path: `forward` sets it, `unforward` takes it away
abbrev pub endpoint_by : List (List ℕ) → Option Command → Option (Option Endpoint)
endpoint_by p (Some (Forward q endpoint)) = if same_path q p then Some (Some endpoint) else None
endpoint_by p (Some (Unforward q)) = if same_path q p then Some None else None
endpoint_by p command = None

-- the endpoint of a path: by the last command done on it, else the configured one
abbrev pub endpoint_of : Config → List Entry → List (List ℕ) → Option Endpoint
endpoint_of c [] p = option_map (λ f. f.endpoint) (find (λ f. same_path f.path p) c.forwards)
endpoint_of c (e ∷ past) p = elim (endpoint_by p (command_done past e)) [ Some endpoint ↦ endpoint | None ↦ endpoint_of c past p ]

-- the endpoint of the longest path that leads to this one
abbrev pub forward_from : (List (List ℕ) → Option Endpoint) → List (List ℕ) → List (List ℕ) → Option Endpoint
forward_from endpoint above [] = endpoint above
forward_from endpoint above (x ∷ p) = elim (forward_from endpoint (above ++ x ∷ []) p) [ Some found ↦ Some found | None ↦ endpoint above ]

abbrev pub forward_of : Config → List Entry → List (List ℕ) → Option Endpoint
forward_of c past p = forward_from (endpoint_of c past) [] p
