use Rattle.journal_audit.proofs.Spoiled.{one_first}
use Rattle.journal_audit.proofs.laws.one_bad_entry_is_the_first.Goals as goal

pub returns : goal.returns
returns c = one_first
