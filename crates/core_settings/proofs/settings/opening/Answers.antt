use Rattle.std.proofs.Common.{[], sym, subst}
use Rattle.core_settings.specs.States.{start_states}
use Rattle.core_settings.specs.Told.{SettingsAgree}
use Rattle.core_settings.proofs.Opened.{opened}
use Rattle.core_settings.proofs.settings.opening.Goals as goal

pub returns : goal.returns
returns c =
    subst (λ m. SettingsAgree c.args.config.now [] (record { managers = m; presets = c.new-2.result; endpoints = c.new-3.result })) (sym c.in_ok-new.ensures)
    (subst (λ p. SettingsAgree c.args.config.now [] (record { managers = start_states c.args.config.now; presets = p; endpoints = c.new-3.result }))
    (sym c.new-2.ensures)
    (subst (λ e. SettingsAgree c.args.config.now [] (record { managers = start_states c.args.config.now; presets = []; endpoints = e })) (sym c.new-3.ensures)
    (opened c.args.config.now)))
