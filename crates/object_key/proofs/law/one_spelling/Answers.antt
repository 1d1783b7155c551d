use Rattle.object_key.proofs.Keys.{one_key}
use Rattle.object_key.proofs.law.one_spelling.Goals as goal

pub returns : goal.returns
returns c = one_key
