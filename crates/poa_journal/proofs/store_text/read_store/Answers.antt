use Rattle.std.proofs.Common.{◌∙◌, ℕ, Result, List, ap, subst}
use Rattle.poa_base.specs.declared.State.{State}
use Rattle.poa_base.specs.Store.{Place, Slots, states}
use Rattle.poa_journal.specs.declared.fault.JournalFault.{JournalFault}
use Rattle.poa_journal.specs.Whole.{JournalReads, rows_of}
use Rattle.poa_journal.proofs.PrintedBack.{store_back}
use Rattle.poa_journal.proofs.FirstBad.{first_bad_row}
use Rattle.poa_journal.proofs.store_text.read_store.Goals as goal

pub returns-clause-bad : goal.returns-clause-bad
returns-clause-bad c = λ line is store whole same.
    first_bad_row line _ store (subst (λ (r : Result Slots JournalFault). JournalReads states r (rows_of c.args.bytes.now)) is c.read_all.ensures.value) whole
    same

pub returns-clause-back : goal.returns-clause-back
returns-clause-back c = λ store whole text.
    subst (λ (meant : Result (List (Place × State)) ℕ). JournalReads states c.read_all.result meant)
    (ap rows_of text ∙ store_back store whole) c.read_all.ensures.value
