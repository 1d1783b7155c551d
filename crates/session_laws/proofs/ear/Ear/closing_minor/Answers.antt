use Rattle.std.proofs.Common.{subst}
use Rattle.session_laws.specs.HearingPieces.{KnowsFirst}
use Rattle.session_laws.proofs.Answers.{if_ok}
use Rattle.session_laws.proofs.Firsts.{messages_close, lines_close}
use Rattle.session_laws.proofs.ear.Ear.closing_minor.Goals as goal

pub returns-in-Messages-clause-first : goal.returns-in-Messages-clause-first
returns-in-Messages-clause-first c =
    if_ok c.first_minor.result _ _
    (λ minor told peer text knows. messages_close _ minor told peer text (subst (λ ear. KnowsFirst peer ear text) c.in-Messages.is knows))
    c.first_minor.ensures.first

pub returns-clause-first : goal.returns-clause-first
returns-clause-first c = λ peer text knows. lines_close _ _ peer text (subst (λ ear. KnowsFirst peer ear text) c.in-Lines.is knows)
