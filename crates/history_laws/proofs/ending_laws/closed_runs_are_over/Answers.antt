use Rattle.history_laws.proofs.Over.{closed_over}
use Rattle.history_laws.proofs.ending_laws.closed_runs_are_over.Goals as goal

pub returns : goal.returns
returns c = λ g more h worker is closed free none. closed_over g more h worker is closed free none
