-- What the administrator's commands have set, beside what is configured.
use Rattle.std.specs.Prelude.{◌≡◌, ℕ, suc, Bool, true, false, List, [], ◌∷◌, find, length, Option, Some, None, if◌then◌else◌, Result, OnOk}
use Rattle.poa_base.specs.declared.Config.{Config}
use Rattle.poa_base.specs.declared.Endpoint.{Endpoint}
use Rattle.poa_base.specs.declared.ManagerState.{ManagerState}
use Rattle.poa_base.specs.declared.Command.{Command}
use Rattle.poa_base.specs.declared.Command.TheVariants.{Preset, Forward, Unforward}
use Rattle.poa_base.specs.declared.Entry.{Entry}
use Rattle.core_settings.specs.States.{state_at}
use Rattle.history_standing.specs.Paths.{same_path}
use Rattle.history_standing.specs.Logs.{command_done, manager_state, preset_of, endpoint_of, forward_from}
use Rattle.core_settings.specs.declared.presets.PresetRow.{PresetRow}
use Rattle.core_settings.specs.declared.endpoints.EndpointRow.{EndpointRow}
use Rattle.core_settings.specs.declared.settings.Settings.{Settings}

-- the state of a manager
abbrev pub state_in : Settings → ℕ → ManagerState
state_in s m = state_at s.managers m

-- what was set for a path
abbrev pub preset_row : List PresetRow → List (List ℕ) → Option PresetRow
preset_row rows p = find (λ r. same_path r.path p) rows

abbrev pub endpoint_row : List EndpointRow → List (List ℕ) → Option EndpointRow
endpoint_row rows p = find (λ r. same_path r.path p) rows

-- the path has this default servant now, and every other path what it had
abbrev pub IsPresetSet : List (List ℕ) → List ℕ → List PresetRow → List PresetRow → Type 0
IsPresetSet path servant old new = (p : List (List ℕ))
    → preset_row new p ≡ (if same_path path p then Some (record { path = path; servant = servant }) else preset_row old p)

-- the path has this endpoint now, or none, and every other path what it had
abbrev pub IsEndpointSet : List (List ℕ) → Option Endpoint → List EndpointRow → List EndpointRow → Type 0
IsEndpointSet path endpoint old new = (p : List (List ℕ))
    → endpoint_row new p ≡ (if same_path path p then Some (record { path = path; endpoint = endpoint }) else endpoint_row old p)

-- the default servant of a path: the one that was set, else the configured one
abbrev pub preset_in : Config → Settings → List (List ℕ) → Option (List ℕ)
preset_in c s p = elim (preset_row s.presets p) [ Some r ↦ Some r.servant | None ↦ preset_of c [] p ]

-- the endpoint of a path, or that there is none: as it was set, else as it is configured
abbrev pub endpoint_in : Config → Settings → List (List ℕ) → Option Endpoint
endpoint_in c s p = elim (endpoint_row s.endpoints p) [ Some r ↦ r.endpoint | None ↦ endpoint_of c [] p ]

-- the endpoint of the longest path that leads to this one
abbrev pub forward_in : Config → Settings → List (List ℕ) → Option Endpoint
forward_in c s p = forward_from (endpoint_in c s) [] p

-- they say of each manager and each path what the history says
pub record SettingsAgree (c : Config) (past : List Entry) (s : Settings) : Type 0 where
  -- each manager has its state here, 0 being `root`
  pub managed : length s.managers ≡ suc (length c.managers)
  pub states : (m : ℕ) → state_in s m ≡ manager_state c past m
  pub presets : (p : List (List ℕ)) → preset_in c s p ≡ preset_of c past p
  pub endpoints : (p : List (List ℕ)) → endpoint_in c s p ≡ endpoint_of c past p

-- the command may need a row of its own
abbrev pub may_grow : Option Command → Bool
may_grow (Some (Preset p servant)) = true
may_grow (Some (Forward p endpoint)) = true
may_grow (Some (Unforward p)) = true
may_grow command = false

-- what holds of each history that they agree with
abbrev pub SettingsTell : Config → Settings → (List Entry → Type 0) → Type 0
SettingsTell c s says = (past : List Entry) → SettingsAgree c past s → says past

-- where it succeeds, they took in each entry that does the command
abbrev pub SettingsFollow : {T E : Type 0} → Config → Option Command → Settings → Result T E → Settings → Type 0
SettingsFollow c command old result new = (past : List Entry) (e : Entry) → SettingsAgree c past old → command ≡ command_done past e
    → OnOk result (SettingsAgree c (e ∷ past) new)
