use Rattle.journal_audit.proofs.Spoiled.{spoiled}
use Rattle.journal_audit.proofs.laws.one_bad_entry_spoils_all.Goals as goal

pub returns : goal.returns
returns c = spoiled
