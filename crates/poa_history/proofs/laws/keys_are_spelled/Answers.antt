use Rattle.poa_history.proofs.laws.keys_are_spelled.Goals as goal
use Rattle.poa_history.proofs.KeysSpelled.{key_spelled, spelling_found}

pub returns-clause-spelled : goal.returns-clause-spelled
returns-clause-spelled c = key_spelled

pub returns-clause-found : goal.returns-clause-found
returns-clause-found c = spelling_found
