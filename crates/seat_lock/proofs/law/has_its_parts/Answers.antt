use Rattle.seat_lock.proofs.InWords.{in_words}
use Rattle.seat_lock.proofs.law.has_its_parts.Goals as goal

pub returns : goal.returns
returns g c = λ all base s small r. in_words _ _ _ all base s r small
