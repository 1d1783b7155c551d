use Rattle.poa_history.proofs.laws.one_at_a_time.Goals as goal
use Rattle.poa_history.proofs.AloneKept.{stands_alone}

pub returns : goal.returns
returns c = stands_alone
