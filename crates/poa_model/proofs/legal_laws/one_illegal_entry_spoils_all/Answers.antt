use Rattle.poa_model.proofs.Spoiled.{spoiled}
use Rattle.poa_model.proofs.legal_laws.one_illegal_entry_spoils_all.Goals as goal

pub returns : goal.returns
returns c = spoiled
