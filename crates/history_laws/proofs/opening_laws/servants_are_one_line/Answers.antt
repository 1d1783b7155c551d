use Rattle.history_laws.proofs.OneServant.{one_line, line_carried, line_stored}
use Rattle.history_laws.proofs.Opened.{given, alone, within}
use Rattle.history_laws.proofs.opening_laws.servants_are_one_line.Goals as goal

pub returns-clause-line : goal.returns-clause-line
returns-clause-line c =
    λ conf run limit h is opened kind p oid brings are. one_line conf run limit (given conf run limit h is) (alone conf run limit h is)
    (within conf run limit h is) opened kind p oid brings h is.legal are

pub returns-clause-state : goal.returns-clause-state
returns-clause-state c =
    λ conf run limit h is opened kind p oid brings are. line_carried conf run limit (given conf run limit h is) (alone conf run limit h is)
    (within conf run limit h is) opened kind p oid brings h is.legal are

pub returns-clause-kept : goal.returns-clause-kept
returns-clause-kept c =
    λ conf run limit h is opened kind p oid brings are. line_stored conf run limit (given conf run limit h is) (alone conf run limit h is)
    (within conf run limit h is) opened kind p oid brings h is.legal are
