use Rattle.std.proofs.Common.{◌∙◌, ◌∷◌, [], ◌^◌, sym, ap, map}
use Rattle.text_words.specs.Token.{keyword, number}
use Rattle.text_words.proofs.Lines.{line_spelled}
use Rattle.poa_journal.specs.declared.value_words.Mark.TheVariants as mark
use Rattle.poa_journal.specs.ValueWords.{mark_word}
use Rattle.poa_journal.proofs.reading.read_head.Goals as goal

pub returns-in-Ok-clause-text : goal.returns-in-Ok-clause-text
returns-in-Ok-clause-text c =
    line_spelled c.args.line.now (keyword (mark_word mark.Journal))
    (keyword (mark_word mark.One) ∷ keyword (mark_word mark.Run) ∷ number (2 ^ 32) c.in-Ok.run' ∷ [])
    (sym c.in_ok-words.ensures ∙ ap (map (λ w. w.now)) (sym c.as_slice.ensures.value) ∙ c.in-Ok.ensures.text)
