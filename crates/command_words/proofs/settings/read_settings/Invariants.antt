use Rattle.std.proofs.Common.{◌≡◌, ◌++◌, drop, map, option_map, string_bytes}
use Rattle.command_words.specs.Settings.{among, seen_place, seen_setting, settings_of}
use Rattle.command_words.proofs.settings.read_settings.Given as goal

abbrev pub invariant-loop-word : goal.invariant-loop-word
invariant-loop-word l =
    option_map (λ more. map seen_setting l.settings.items ++ more) (settings_of l.command (seen_place l.place) (map string_bytes (drop l.word-index l.words)))
    ≡ settings_of l.command among (map string_bytes l.words)
