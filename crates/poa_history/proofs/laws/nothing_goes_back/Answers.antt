use Rattle.poa_history.proofs.laws.nothing_goes_back.Goals as goal
use Rattle.poa_history.proofs.ActivationsLater.{history_later}
use Rattle.poa_history.proofs.GoneStays.{gone_stays}

pub returns-clause-activations : goal.returns-clause-activations
returns-clause-activations c = history_later

pub returns-clause-gone : goal.returns-clause-gone
returns-clause-gone c = gone_stays
