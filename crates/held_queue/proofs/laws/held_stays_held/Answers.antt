use Rattle.held_queue.proofs.laws.held_stays_held.Goals as goal
use Rattle.held_queue.proofs.Stays.{still_blocked, turn_stays}

pub returns-clause-stays : goal.returns-clause-stays
returns-clause-stays c =
    λ conf run limit past e given alone within legal r less hold still blocks. still_blocked conf run limit past e given alone within legal r less hold still
    blocks

pub returns-clause-waits : goal.returns-clause-waits
returns-clause-waits c =
    λ conf run limit past e given alone within legal r less k few takes. turn_stays conf run limit past e given alone within legal r less few k takes
