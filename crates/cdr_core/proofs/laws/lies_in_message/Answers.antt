use Rattle.cdr_core.proofs.Slices.{lies_in_message}
use Rattle.cdr_core.proofs.laws.lies_in_message.Goals as goal

pub returns : goal.returns
returns c = lies_in_message
