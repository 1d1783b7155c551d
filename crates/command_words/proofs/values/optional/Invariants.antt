use Rattle.std.proofs.Common.{◌≡◌, drop, map, option_map}
use Rattle.command_words.specs.Settings.{seen_setting, values_of}
use Rattle.command_words.proofs.Found.{found_first}
use Rattle.command_words.proofs.values.optional.Given as goal

abbrev pub invariant-loop-setting : goal.invariant-loop-setting
invariant-loop-setting l =
    found_first (option_map (λ v. v.now) l.found) (values_of l.name (map seen_setting (drop l.setting-index l.settings)))
    ≡ values_of l.name (map seen_setting l.settings)
