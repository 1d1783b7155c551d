use Rattle.history_laws.proofs.opening_laws.destroyed_are_dying.Goals as goal
use Rattle.poa_history.proofs.DyingIs.{dying_is}
use Rattle.history_laws.proofs.Opened.{given, within}

pub returns : goal.returns
returns c = λ conf run limit h is. dying_is conf run limit h (given conf run limit h is) (within conf run limit h is) is.legal
