-- What a command changes of what is set.
use Rattle.std.specs.Prelude.{◌≡◌, ℕ, suc, List, length, Option, Some, None}
use Rattle.poa_base.specs.declared.Config.{Config}
use Rattle.poa_base.specs.declared.Command.{Command}
use Rattle.history_standing.specs.Logs.{order_for, ordered_state, preset_by, endpoint_by}
use Rattle.core_settings.specs.declared.settings.Settings.{Settings}
use Rattle.core_settings.specs.Told.{state_in, preset_in, endpoint_in}

-- what the command speaks of is as it says; all else is as before
pub record Follows (c : Config) (command : Option Command) (old new : Settings) : Type 0 where
  pub managed : length new.managers ≡ length old.managers
  pub states : length old.managers ≡ suc (length c.managers) → (m : ℕ)
      → state_in new m ≡ elim (order_for c m command) [ Some order ↦ ordered_state order | None ↦ state_in old m ]
  pub presets : (p : List (List ℕ)) → preset_in c new p ≡ elim (preset_by p command)
      [ Some servant ↦ Some servant | None ↦ preset_in c old p ]
  pub endpoints : (p : List (List ℕ)) → endpoint_in c new p ≡ elim (endpoint_by p command)
      [ Some endpoint ↦ endpoint | None ↦ endpoint_in c old p ]
