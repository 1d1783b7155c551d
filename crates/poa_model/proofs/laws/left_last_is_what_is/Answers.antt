use Rattle.poa_model.proofs.Agree.{agrees}
use Rattle.poa_model.proofs.laws.left_last_is_what_is.Goals as goal

pub returns-clause-servants : goal.returns-clause-servants
returns-clause-servants c = λ c run opened h. (agrees c run opened h).servants

pub returns-clause-places : goal.returns-clause-places
returns-clause-places c = λ c run opened h. (agrees c run opened h).places
