use Rattle.history_standing.proofs.laws.nothing_is_left.Goals as goal
use Rattle.history_standing.proofs.Clear.{clear_idle, clear_over}

pub returns-clause-idle : goal.returns-clause-idle
returns-clause-idle c = clear_idle

pub returns-clause-over : goal.returns-clause-over
returns-clause-over c = clear_over
