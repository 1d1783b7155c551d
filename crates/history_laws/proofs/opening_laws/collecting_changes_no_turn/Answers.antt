use Rattle.history_laws.proofs.Collecting.{turn_same}
use Rattle.history_laws.proofs.Opened.{given, alone, within}
use Rattle.history_laws.proofs.opening_laws.collecting_changes_no_turn.Goals as goal

pub returns : goal.returns
returns c =
    λ conf run limit h is conn a w. turn_same conf run limit (given conf run limit h is) (alone conf run limit h is)
    (within conf run limit h is) h is.legal conn a w
