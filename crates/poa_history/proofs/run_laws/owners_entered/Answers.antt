use Rattle.poa_history.proofs.Owned.{owners_low}
use Rattle.poa_history.proofs.run_laws.owners_entered.Goals as goal

pub returns : goal.returns
returns c = λ g h runs. owners_low g.config g.run g.limit h runs.legal
