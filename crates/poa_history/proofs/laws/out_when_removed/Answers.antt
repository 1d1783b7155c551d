use Rattle.poa_history.proofs.laws.out_when_removed.Goals as goal
use Rattle.poa_history.proofs.OutIs.{out_taken, out_run_out}

pub returns-clause-taken : goal.returns-clause-taken
returns-clause-taken c = out_taken

pub returns-clause-left : goal.returns-clause-left
returns-clause-left c = out_run_out
