use Rattle.history_laws.proofs.opening_laws.openings_are_sound.Goals as goal
use Rattle.history_laws.proofs.Opened.{opening_given}

pub returns : goal.returns
returns c = opening_given
