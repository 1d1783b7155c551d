use Rattle.poa_choose.proofs.Runs.{runs_where_active}
use Rattle.poa_choose.proofs.laws.servants_run_where_active.Goals as goal

pub returns : goal.returns
returns c = record {
  active = λ f worker h. (runs_where_active f worker h).0;
  found = λ f worker h. (runs_where_active f worker h).1;
  own_tag = λ f worker h. (runs_where_active f worker h).2;
}
