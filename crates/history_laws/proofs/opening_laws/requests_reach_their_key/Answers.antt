use Rattle.history_laws.proofs.Keyed.{keyed_all}
use Rattle.history_laws.proofs.Opened.{given, alone, within}
use Rattle.history_laws.proofs.opening_laws.requests_reach_their_key.Goals as goal

pub returns : goal.returns
returns c = λ conf run limit h is. keyed_all conf run limit h (given conf run limit h is) (alone conf run limit h is) (within conf run limit h is) is.legal
