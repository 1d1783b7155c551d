use Rattle.poa_history.proofs.LivesKept.{has_lifetime}
use Rattle.history_laws.proofs.Opened.{given, alone, within}
use Rattle.history_laws.proofs.opening_laws.lifetimes_are_kept.Goals as goal

pub returns : goal.returns
returns c = λ conf run limit h is. has_lifetime conf run limit h (given conf run limit h is) (alone conf run limit h is) (within conf run limit h is) is.legal
