use Rattle.history_laws.proofs.opening_laws.ordinals_fit.Goals as goal
use Rattle.poa_history.proofs.IdsFew.{has_ordinal}
use Rattle.history_laws.proofs.Opened.{within}

pub returns : goal.returns
returns c = λ conf run limit h is. has_ordinal conf run limit (within conf run limit h is) h is.legal
