use Rattle.history_laws.proofs.Undone.{in_hand, all_done}
use Rattle.history_laws.proofs.Opened.{given, alone, within}
use Rattle.history_laws.proofs.opening_laws.nothing_stays_undone.Goals as goal

pub returns-clause-in_hand : goal.returns-clause-in_hand
returns-clause-in_hand c =
    λ conf run limit h is. in_hand conf run limit (given conf run limit h is) (alone conf run limit h is) (within conf run limit h is) h is.legal

pub returns-clause-done : goal.returns-clause-done
returns-clause-done c =
    λ conf run limit h is idle. all_done conf run limit (given conf run limit h is) (alone conf run limit h is) (within conf run limit h is) h is.legal idle
