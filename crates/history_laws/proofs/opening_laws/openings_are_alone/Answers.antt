use Rattle.history_laws.proofs.opening_laws.openings_are_alone.Goals as goal
use Rattle.history_laws.proofs.Opened.{opening_alone}

pub returns : goal.returns
returns c = opening_alone
