use Rattle.history_laws.proofs.Freed.{freed}
use Rattle.history_laws.proofs.ending_laws.idle_workers_are_free.Goals as goal

pub returns : goal.returns
returns c = λ g h worker is idle. freed g h is worker idle
