use Rattle.cdr_core.proofs.Written.{written_spells}
use Rattle.cdr_core.proofs.laws.written_spells.Goals as goal

pub returns : goal.returns
returns c = written_spells
