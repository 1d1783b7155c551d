use Rattle.core_standing.proofs.Settled.{nothing_changed}
use Rattle.core_standing.proofs.laws.what_changes_nothing.Goals as goal

pub returns : goal.returns
returns c = nothing_changed
