use Rattle.std.proofs.Common.{◌∙◌, ℕ, Result, ap, subst}
use Rattle.poa_base.specs.declared.Journal.{Journal}
use Rattle.poa_journal.specs.declared.fault.JournalFault.{JournalFault}
use Rattle.poa_journal.specs.Whole.{Contents, JournalReads, contents, contents_of}
use Rattle.poa_journal.proofs.PrintedBack.{journal_back}
use Rattle.poa_journal.proofs.FirstBad.{first_bad}
use Rattle.poa_journal.proofs.reading.read.Goals as goal

pub returns-clause-bad : goal.returns-clause-bad
returns-clause-bad c = λ line is journal whole same.
    first_bad line _ journal (subst (λ (r : Result Journal JournalFault). JournalReads contents r (contents_of c.args.bytes.now)) is c.read_lines.ensures.value)
    whole same

pub returns-clause-back : goal.returns-clause-back
returns-clause-back c = λ journal whole text.
    subst (λ (meant : Result Contents ℕ). JournalReads contents c.read_lines.result meant)
    (ap contents_of text ∙ journal_back journal whole) c.read_lines.ensures.value
