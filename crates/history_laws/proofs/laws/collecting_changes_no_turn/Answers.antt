use Rattle.history_laws.proofs.laws.collecting_changes_no_turn.Goals as goal
use Rattle.history_laws.proofs.Collecting.{turn_same}

pub returns : goal.returns
returns c = λ conf run limit h given alone within legal conn a w. turn_same conf run limit given alone within h legal conn a w
