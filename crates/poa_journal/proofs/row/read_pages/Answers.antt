use Rattle.std.proofs.Common.{arith}
use Rattle.poa_journal.proofs.Pages.{page_step}
use Rattle.poa_journal.proofs.row.read_pages.Goals as goal

pub loop-word-preserved : goal.loop-word-preserved
loop-word-preserved c =
    page_step _ _ _ _ _ _ (omega arith) c.in-Ok.ensures.items c.in_ok-page.ensures.value c.in_ok-page.ensures.text c.loop-word.invariant
