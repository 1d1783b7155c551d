-- The words are those of the row that came, or of one that doesn't stand above the others.
use Rattle.std.proofs.Common.{ap, ◌∙◌}
use Rattle.text_words.specs.Path.{path_of}
use Rattle.poa_journal.proofs.Taking.{taken_by}
use Rattle.poa_journal.proofs.shelving.Shelving.take_slot.Goals as goal

pub returns-then-is_written-clause-taken : goal.returns-then-is_written-clause-taken
returns-then-is_written-clause-taken c =
    let same = c.is_written.ensures c.if-is_written.true in
    taken_by c.add.result c.args.line _ _ _ _ _ _ _ (ap path_of same ∙ c.requires.shelving.known) c.in-Ok.ensures.value
    (same ∙ c.requires.shelving.spells) c.in-Ok.ensures.text c.add.ensures.shelves
