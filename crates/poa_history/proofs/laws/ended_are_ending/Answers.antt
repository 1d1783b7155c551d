use Rattle.poa_history.proofs.laws.ended_are_ending.Goals as goal
use Rattle.poa_history.proofs.EndingsAre.{endings_are}

pub returns-clause-ending : goal.returns-clause-ending
returns-clause-ending c = λ c run limit given within h legal a there. (endings_are c run limit given within h legal a there).0

pub returns-clause-quiet : goal.returns-clause-quiet
returns-clause-quiet c = λ c run limit given within h legal a there. (endings_are c run limit given within h legal a there).1
