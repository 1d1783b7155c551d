use Rattle.history_laws.proofs.opening_laws.runs_are_sound.Goals as goal
use Rattle.poa_history.proofs.LegalSound.{legal_sound}
use Rattle.history_laws.proofs.Opened.{given, within}

pub returns : goal.returns
returns c = λ conf run limit h is. legal_sound conf run limit h (given conf run limit h is) (within conf run limit h is) is.legal
