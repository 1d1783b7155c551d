use Rattle.cdr_core.proofs.Slices.{stands_behind}
use Rattle.cdr_core.proofs.laws.stands_behind.Goals as goal

pub returns : goal.returns
returns c = stands_behind
