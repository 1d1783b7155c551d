use Rattle.history_words.proofs.laws.servants_are_those_given.Goals as goal
use Rattle.history_words.proofs.GivenAre.{as_given}

pub returns-clause-complete : goal.returns-clause-complete
returns-clause-complete c = λ conf run limit h given alone within legal a there. (as_given conf run limit given alone within h legal a there).0

pub returns-clause-void : goal.returns-clause-void
returns-clause-void c = λ conf run limit h given alone within legal a there. (as_given conf run limit given alone within h legal a there).1
