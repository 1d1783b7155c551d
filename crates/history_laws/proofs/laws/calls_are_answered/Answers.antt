use Rattle.history_laws.proofs.laws.calls_are_answered.Goals as goal
use Rattle.history_laws.proofs.Answered.{answered}
use Rattle.history_laws.proofs.Shut.{shut_over}

pub returns-clause-answered : goal.returns-clause-answered
returns-clause-answered c = λ conf run limit h given alone within legal idle. answered conf run limit given alone within h legal idle

pub returns-clause-shut : goal.returns-clause-shut
returns-clause-shut c = λ conf run limit h given alone within legal idle shut. shut_over conf run limit given alone within h legal idle shut
