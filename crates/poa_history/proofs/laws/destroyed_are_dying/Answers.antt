use Rattle.poa_history.proofs.laws.destroyed_are_dying.Goals as goal
use Rattle.poa_history.proofs.DyingIs.{dying_is}

pub returns : goal.returns
returns c = dying_is
