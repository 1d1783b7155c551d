use Rattle.history_standing.specs.Changes.{standing}
use Rattle.poa_history.proofs.LegalSound.{legal_sound}
use Rattle.poa_history.proofs.GoneIs.{ends_where, stands_ungone, emptied_where}
use Rattle.history_laws.proofs.opening_laws.gone_have_ended.Goals as goal
use Rattle.history_laws.proofs.Opened.{given, within}

pub returns-clause-ends : goal.returns-clause-ends
returns-clause-ends c =
    λ conf run limit h is. ends_where conf run (standing conf run h)
    (legal_sound conf run limit h (given conf run limit h is) (within conf run limit h is) is.legal)

pub returns-clause-stays : goal.returns-clause-stays
returns-clause-stays c = λ conf run limit h is. stands_ungone conf run limit h (given conf run limit h is) (within conf run limit h is) is.legal

pub returns-clause-emptied : goal.returns-clause-emptied
returns-clause-emptied c = λ conf run limit h is. emptied_where conf run limit h (given conf run limit h is) (within conf run limit h is) is.legal
