use Rattle.cdr_core.proofs.Refusals.{no_skip_where_lacking}
use Rattle.cdr_core.proofs.laws.no_skip_where_lacking.Goals as goal

pub returns : goal.returns
returns c = no_skip_where_lacking
