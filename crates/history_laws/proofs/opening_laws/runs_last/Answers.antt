use Rattle.history_laws.proofs.Lasting.{keeps_updates, leaves_nothing}
use Rattle.history_laws.proofs.opening_laws.runs_last.Goals as goal

pub returns-clause-undone : goal.returns-clause-undone
returns-clause-undone c = leaves_nothing

pub returns-clause-updates : goal.returns-clause-updates
returns-clause-updates c = keeps_updates
