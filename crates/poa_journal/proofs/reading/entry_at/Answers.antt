use Rattle.std.proofs.Common.{◌∙◌, sym, ap, map}
use Rattle.text_words.specs.Token.{keyword}
use Rattle.text_words.proofs.Lines.{line_spelled}
use Rattle.poa_journal.specs.Fixed.{kind_word}
use Rattle.poa_journal.specs.Entry.{kind_in, body_tokens}
use Rattle.poa_journal.proofs.reading.entry_at.Goals as goal

pub returns-in-Ok-clause-text : goal.returns-in-Ok-clause-text
returns-in-Ok-clause-text c =
    line_spelled c.args.line.now (keyword (kind_word (kind_in c.in-Ok.entry))) (body_tokens c.in-Ok.entry)
    (sym c.in_ok-words.ensures ∙ ap (map (λ w. w.now)) (sym c.as_slice.ensures.value) ∙ c.in-Ok.ensures.text)
