use Rattle.poa_history.proofs.laws.what_stands_is_sound.Goals as goal
use Rattle.poa_history.proofs.LegalSound.{legal_sound}

pub returns : goal.returns
returns c = legal_sound
