use Rattle.poa_history.proofs.MannedKept.{all_manned}
use Rattle.history_laws.proofs.Opened.{given, alone, within}
use Rattle.history_laws.proofs.opening_laws.in_flight_has_its_worker.Goals as goal

pub returns : goal.returns
returns c = λ conf run limit h is. all_manned conf run limit h (given conf run limit h is) (alone conf run limit h is) (within conf run limit h is) is.legal
