use Rattle.history_laws.proofs.ShutDown.{shut_ends}
use Rattle.history_laws.proofs.ending_laws.shut_runs_end.Goals as goal

pub returns : goal.returns
returns c = λ g h is idle shut. shut_ends g h is shut idle
