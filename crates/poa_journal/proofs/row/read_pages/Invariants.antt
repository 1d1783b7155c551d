use Rattle.poa_journal.proofs.Pages.{PagesRead}
use Rattle.poa_journal.proofs.row.read_pages.Given as goal

abbrev pub invariant-loop-word : goal.invariant-loop-word
invariant-loop-word l = PagesRead l.words l.pages.items l.word-index
