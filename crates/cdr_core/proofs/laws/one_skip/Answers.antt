use Rattle.cdr_core.proofs.OneReading.{one_skip}
use Rattle.cdr_core.proofs.laws.one_skip.Goals as goal

pub returns : goal.returns
returns c = one_skip
