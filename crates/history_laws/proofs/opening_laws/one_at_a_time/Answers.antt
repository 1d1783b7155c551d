use Rattle.history_laws.proofs.opening_laws.one_at_a_time.Goals as goal
use Rattle.poa_history.proofs.AloneKept.{stands_alone}
use Rattle.history_laws.proofs.Opened.{given, alone, within}

pub returns : goal.returns
returns c = λ conf run limit h is. stands_alone conf run limit h (given conf run limit h is) (alone conf run limit h is) (within conf run limit h is) is.legal
