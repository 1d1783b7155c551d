use Rattle.history_laws.proofs.laws.nothing_stays_undone.Goals as goal
use Rattle.history_laws.proofs.Undone.{in_hand, all_done}

pub returns-clause-in_hand : goal.returns-clause-in_hand
returns-clause-in_hand c = λ conf run limit h given alone within legal. in_hand conf run limit given alone within h legal

pub returns-clause-done : goal.returns-clause-done
returns-clause-done c = λ conf run limit h given alone within legal idle. all_done conf run limit given alone within h legal idle
