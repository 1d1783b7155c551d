use Rattle.poa_history.proofs.laws.ids_are_few.Goals as goal
use Rattle.poa_history.proofs.IdsFew.{few_ids, has_ordinal}

pub returns-clause-few : goal.returns-clause-few
returns-clause-few c = few_ids

pub returns-clause-fits : goal.returns-clause-fits
returns-clause-fits c = λ c run limit h within legal. has_ordinal c run limit within h legal
