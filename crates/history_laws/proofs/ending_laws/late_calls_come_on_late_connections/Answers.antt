use Rattle.history_laws.proofs.LateCalls.{late}
use Rattle.history_laws.proofs.ending_laws.late_calls_come_on_late_connections.Goals as goal

pub returns : goal.returns
returns c = λ g more h worker r conn is closed after less of. late g.config g.run g.limit h closed.left r conn after more is.legal less of
