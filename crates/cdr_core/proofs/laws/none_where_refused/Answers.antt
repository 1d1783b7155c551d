use Rattle.cdr_core.proofs.Refusals.{none_where_refused}
use Rattle.cdr_core.proofs.laws.none_where_refused.Goals as goal

pub returns : goal.returns
returns c = none_where_refused
