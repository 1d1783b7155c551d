-- By what a call is held or decided, since when that is so, and by which command.
use Rattle.std.specs.Prelude.{ℕ, ◌==◌, Bool, true, false, not, if◌then◌else◌, List, [], ◌∷◌, ◌++◌, length, Option, Some, None, option_map}
use Rattle.poa_base.specs.declared.Command.{Command}
use Rattle.poa_base.specs.declared.Command.TheVariants.{Manager, Preset, Forward, Unforward}
use Rattle.poa_base.specs.declared.Config.{Config}
use Rattle.poa_base.specs.declared.Endpoint.{Endpoint}
use Rattle.poa_base.specs.declared.Entry.{Entry}
use Rattle.poa_base.specs.declared.Entry.TheVariants.{Admit}
use Rattle.poa_base.specs.declared.ManagerState.{ManagerState}
use Rattle.poa_base.specs.declared.ManagerState.TheVariants.{Holding, Active, Discarding, Inactive}
use Rattle.poa_base.specs.declared.Order.{Order}
use Rattle.poa_choose.specs.declared.Facts.{Facts}
use Rattle.history_standing.specs.Arrivals.{call_of, is_message}
use Rattle.history_standing.specs.Keys.{key_in}
use Rattle.history_standing.specs.Logs.{command_done, command_in, endpoint_of, manager_state, ordered_state}
use Rattle.history_standing.specs.Paths.{same_path}
use Rattle.history_standing.specs.Situations.{facts_of, key_or_none}
use Rattle.history_standing.specs.Templates.{manager_number}
use Rattle.held_queue.specs.declared.Hold.TheVariants as hold
use Rattle.journal_explain.specs.declared.basis.Basis.{Basis}
use Rattle.journal_explain.specs.declared.basis.Basis.TheVariants as basis
use Rattle.journal_explain.specs.declared.row.Row.{Row}
use Rattle.journal_explain.specs.declared.row.Row.TheVariants as row
use Rattle.journal_explain.specs.declared.setting.Setting.{Setting}
use Rattle.journal_explain.specs.declared.setting.Setting.TheVariants as setting
use Rattle.journal_explain.specs.declared.since.Since.{Since}
use Rattle.journal_explain.specs.declared.tenure.Tenure.{Tenure}
use Rattle.journal_explain.specs.declared.wait.Wait.{Wait}
use Rattle.journal_explain.specs.declared.wait.Wait.TheVariants.{Held}
use Rattle.journal_explain.specs.Rows.{row_of}

abbrev pub is_same : ManagerState → ManagerState → Bool
is_same Holding Holding = true
is_same Active Active = true
is_same Discarding Discarding = true
is_same Inactive Inactive = true
is_same state other = false

-- an order brings a manager from this state to another
abbrev pub turns : ManagerState → Order → Bool
turns state order = not (is_same (ordered_state order) state)

abbrev pub same_setting : Setting → Setting → Bool
same_setting (setting.Manager k) (setting.Manager m) = k == m
same_setting (setting.DefaultServant q) (setting.DefaultServant p) = same_path q p
same_setting (setting.Endpoint q) (setting.Endpoint p) = same_path q p
same_setting one other = false

-- what a command sets that is done next: the state of the manager that it brings to another, the default servant of a path, or its
-- endpoint
abbrev pub set_by : Config → List Entry → Option Command → Option Setting
set_by c past (Some (Manager name order)) =
    elim (manager_number c name) [
      | Some m ↦ (if turns (manager_state c past m) order then Some (setting.Manager m) else None)
      | None ↦ None
    ]
set_by c past (Some (Preset p servant)) = Some (setting.DefaultServant p)
set_by c past (Some (Forward p endpoint)) = Some (setting.Endpoint p)
set_by c past (Some (Unforward p)) = Some (setting.Endpoint p)
set_by c past command = None

abbrev pub is_set : Setting → Option Setting → Bool
is_set s None = false
is_set s (Some t) = same_setting t s

-- since when something is set, where the next entry, at this place, may set it
abbrev pub since_with : Config → List Entry → Entry → ℕ → Setting → Option Since → Option Since
since_with c past (Admit w r verdict) place s before =
    if is_set s (set_by c past (command_done past (Admit w r verdict))) then Some (record { entry = place; arrival = r }) else before
since_with c past e place s before = before

-- the last entry that set it; none where it is as it was when the run began
abbrev pub since_of : Config → List Entry → Setting → Option Since
since_of c [] s = None
since_of c (e ∷ past) s = since_with c past e (length past) s (since_of c past s)

-- the command that this entry admits
abbrev pub command_since : List Entry → Option Since → Option Command
command_since h None = None
command_since h (Some since) = command_in (call_of h since.arrival)

-- what is told of it: of a manager its state
abbrev pub basis_of : Config → List Entry → Setting → Basis
basis_of c h (setting.Manager m) = basis.Manager m (manager_state c h m)
basis_of c h (setting.DefaultServant p) = basis.DefaultServant
basis_of c h (setting.Endpoint p) = basis.Endpoint

abbrev pub tenure_by : Config → List Entry → Setting → Option Since → Tenure
tenure_by c h s since = record { basis = basis_of c h s; since = since; command = command_since h since }

-- what is set, since when, and by which command
abbrev pub tenure_of : Config → List Entry → Setting → Tenure
tenure_of c h s = tenure_by c h s (since_of c h s)

-- by what a call is held that waits: a manager's state, if by one's
abbrev pub holder : Option Wait → Option Setting
holder (Some (Held (hold.Manager m))) = Some (setting.Manager m)
holder wait = None

abbrev pub held_by : Config → List Entry → Option Wait → Option Tenure
held_by c h wait = option_map (tenure_of c h) (holder wait)

-- the longest path that leads to this one and has an endpoint
abbrev pub forwarding_from : (List (List ℕ) → Option Endpoint) → List (List ℕ) → List (List ℕ) → Option (List (List ℕ))
forwarding_from endpoint above [] = option_map (λ found. above) (endpoint above)
forwarding_from endpoint above (x ∷ p) =
    elim (forwarding_from endpoint (above ++ x ∷ []) p) [ Some found ↦ Some found | None ↦ option_map (λ found. above) (endpoint above) ]

abbrev pub forwarding : Config → List Entry → List (List ℕ) → Option (List (List ℕ))
forwarding c past p = forwarding_from (endpoint_of c past) [] p

-- by what a row applies to a call for this path
abbrev pub setting_by : Config → List Entry → List (List ℕ) → Row → Facts → Option Setting
setting_by c past p row.ParentManager f = Some (setting.Manager f.manager)
setting_by c past p row.Manager f = Some (setting.Manager f.manager)
setting_by c past p row.ChildForward f = option_map setting.Endpoint (forwarding c past p)
setting_by c past p row.DefaultServant f = Some (setting.DefaultServant p)
setting_by c past p r f = None

-- the path of a call's key
abbrev pub path_of : List Entry → ℕ → List (List ℕ)
path_of past r = (key_or_none (key_in (call_of past r))).path

-- by what the worker admits a request or a locate
abbrev pub ruler_for : Config → ℕ → List Entry → ℕ → ℕ → Option Setting
ruler_for c run past r w =
    if is_message (call_of past r)
    then setting_by c past (path_of past r) (row_of (facts_of c run past r) w) (facts_of c run past r) else None

-- where the next entry admits it
abbrev pub ruler : Config → ℕ → List Entry → Entry → ℕ → Option Setting
ruler c run past (Admit w a verdict) r = if a == r then ruler_for c run past r w else None
ruler c run past e r = None

abbrev pub ruled_by : Config → ℕ → List Entry → Entry → ℕ → Option Tenure
ruled_by c run past e r = option_map (tenure_of c past) (ruler c run past e r)
