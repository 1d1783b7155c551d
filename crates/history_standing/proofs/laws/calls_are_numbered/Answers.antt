use Rattle.history_standing.proofs.laws.calls_are_numbered.Goals as goal
use Rattle.history_standing.proofs.CallsKept.{call_beyond, conn_beyond}

pub returns-clause-calls : goal.returns-clause-calls
returns-clause-calls c = call_beyond

pub returns-clause-connections : goal.returns-clause-connections
returns-clause-connections c = conn_beyond
