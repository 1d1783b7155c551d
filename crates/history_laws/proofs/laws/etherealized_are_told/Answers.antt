use Rattle.history_laws.proofs.laws.etherealized_are_told.Goals as goal
use Rattle.history_laws.proofs.Told.{told_is}

pub returns : goal.returns
returns c = λ conf run limit h given alone within legal. told_is conf run limit given alone within h legal
