use Rattle.std.proofs.Common.{◌≡◌, ◌∙◌, ◌++◌, Some, List, ap, map, option_map, string_bytes, drop, arith, rules, ◌+◌}
use Rattle.command_words.specs.Settings.{Setting, seen_place, seen_setting, settings_of, word_at}
use Rattle.command_words.proofs.Noting.{noted_next}
use Rattle.command_words.proofs.settings.read_settings.Goals as goal

pub loop-word-preserved : goal.loop-word-preserved
loop-word-preserved c =
    let gives : word_at c.args.command (seen_place c.loop-word.place) (string_bytes c.word-item.result) ≡ Some
    (option_map seen_setting c.in-Some.setting, seen_place c.in-Some.next) = search rules in
    ap (λ (done : List Setting). option_map (λ more. done ++ more)
    (settings_of c.args.command (seen_place c.in-Some.next) (map string_bytes (drop (c.loop-word.word-index + 1) c.args.words.now)))) c.in_ok-note.ensures.ok
    ∙ noted_next c.args.command c.args.words.now c.loop-word.word-index c.word-item.result (seen_place c.loop-word.place) (option_map seen_setting c.in-Some.setting)
    (seen_place c.in-Some.next)
    (map seen_setting c.loop-word.settings.items) (omega arith) c.word-item.is gives
    ∙ c.loop-word.invariant
