use Rattle.poa_history.proofs.laws.lifetimes_are_kept.Goals as goal
use Rattle.poa_history.proofs.LivesKept.{has_lifetime}

pub returns : goal.returns
returns c = has_lifetime
