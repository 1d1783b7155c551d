use Rattle.history_laws.proofs.laws.first_worker_tells.Goals as goal
use Rattle.history_laws.proofs.FirstWorker.{idle_by_first}

pub returns : goal.returns
returns c = λ conf run h none free. idle_by_first conf run h none free
