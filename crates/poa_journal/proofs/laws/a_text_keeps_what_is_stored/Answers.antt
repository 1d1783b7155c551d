use Rattle.poa_journal.proofs.States.{read_stored, same_stored}
use Rattle.poa_journal.proofs.laws.a_text_keeps_what_is_stored.Goals as goal

pub returns-clause-rows : goal.returns-clause-rows
returns-clause-rows c = same_stored

pub returns-clause-back : goal.returns-clause-back
returns-clause-back c = read_stored
