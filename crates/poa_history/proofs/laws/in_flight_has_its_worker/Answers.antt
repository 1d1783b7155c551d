use Rattle.poa_history.proofs.laws.in_flight_has_its_worker.Goals as goal
use Rattle.poa_history.proofs.MannedKept.{all_manned}

pub returns : goal.returns
returns c = all_manned
