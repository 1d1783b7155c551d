use Rattle.std.proofs.Common.{[], take, reverse}
use Rattle.core_settings.specs.Told.{SettingsAgree}
use Rattle.poa_model.proofs.set.follow.Given as goal

abbrev pub invariant-loop-i : goal.invariant-loop-i
invariant-loop-i l = SettingsAgree l.config [] l.initial.settings → SettingsAgree l.config (reverse (take l.i l.history)) l.settings
