use Rattle.poa_journal.proofs.Stored.{states_all}
use Rattle.poa_journal.proofs.shelving.Shelving.into_store.Goals as goal

pub returns : goal.returns
returns c = states_all _ _ c.in_ok-store_all.ensures.all
