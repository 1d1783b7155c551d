use Rattle.history_laws.proofs.Going.{keeps_on, replies_on_both, stands_on}
use Rattle.history_laws.proofs.restart_laws.updates_go_on.Goals as goal

pub returns-clause-line : goal.returns-clause-line
returns-clause-line c = replies_on_both

pub returns-clause-state : goal.returns-clause-state
returns-clause-state c = stands_on

pub returns-clause-kept : goal.returns-clause-kept
returns-clause-kept c = keeps_on
