-- The reply to a call whose adapter was to be created, as the settings tell it.
use Rattle.std.specs.Prelude.{ℕ, List, Option, Some, None}
use Rattle.core_settings.specs.Told.{forward_in}
use Rattle.core_settings.specs.declared.settings.Settings.{Settings}
use Rattle.poa_base.specs.declared.Attempt.{Attempt}
use Rattle.poa_base.specs.declared.Attempt.TheVariants.{Raised, Dying}
use Rattle.poa_base.specs.declared.Call.{Call}
use Rattle.poa_base.specs.declared.Config.{Config}
use Rattle.poa_base.specs.declared.Reply.{Reply}
use Rattle.history_standing.specs.Keys.{key_in}
use Rattle.poa_history.specs.Replies.{activator_raised, adapter_dying, forwarded_to, not_exist_omg, raised_to}
use Rattle.history_standing.specs.Situations.{key_or_none}

-- the endpoint of the path is told, and else the object doesn't exist
abbrev pub reply_unmade : Config → Settings → Option Call → List (List ℕ) → Reply
reply_unmade c s call p = elim (forward_in c s p) [ Some endpoint ↦ forwarded_to call endpoint | None ↦ raised_to call not_exist_omg ]

-- what the adapter activator's answer fixes
abbrev pub reply_tried : Config → Settings → Option Call → Attempt → Reply
reply_tried c s call Raised = raised_to call activator_raised
reply_tried c s call Dying = raised_to call adapter_dying
reply_tried c s call answer = reply_unmade c s call (key_or_none (key_in call)).path
