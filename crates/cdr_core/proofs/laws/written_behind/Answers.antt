use Rattle.cdr_core.proofs.Behind.{written_behind}
use Rattle.cdr_core.proofs.laws.written_behind.Goals as goal

pub returns : goal.returns
returns c = written_behind
