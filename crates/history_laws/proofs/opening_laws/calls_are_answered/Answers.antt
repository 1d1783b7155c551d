use Rattle.history_laws.proofs.Answered.{answered}
use Rattle.history_laws.proofs.Shut.{shut_over}
use Rattle.history_laws.proofs.Opened.{given, alone, within}
use Rattle.history_laws.proofs.opening_laws.calls_are_answered.Goals as goal

pub returns-clause-answered : goal.returns-clause-answered
returns-clause-answered c =
    λ conf run limit h is idle. answered conf run limit (given conf run limit h is) (alone conf run limit h is) (within conf run limit h is) h is.legal idle

pub returns-clause-shut : goal.returns-clause-shut
returns-clause-shut c =
    λ conf run limit h is idle shut. shut_over conf run limit (given conf run limit h is) (alone conf run limit h is)
    (within conf run limit h is) h is.legal idle shut
