use Rattle.history_words.proofs.laws.adapters_are_those_created.Goals as goal
use Rattle.history_words.proofs.Placed.{all_placed, all_numbered}

pub returns-clause-counted : goal.returns-clause-counted
returns-clause-counted c = λ conf run limit h given alone within legal. (all_placed conf run limit given alone within h legal).counted

pub returns-clause-placed : goal.returns-clause-placed
returns-clause-placed c = λ conf run limit h given alone within legal. (all_placed conf run limit given alone within h legal).placed

pub returns-clause-numbered : goal.returns-clause-numbered
returns-clause-numbered c = λ conf run limit h given alone within legal. all_numbered conf run limit given alone within h legal
