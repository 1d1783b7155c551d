use Rattle.std.proofs.Common.{subst}
use Rattle.session_laws.specs.HearingPieces.{KnowsFirst}
use Rattle.session_laws.proofs.Firsts.{messages_known, lines_known}
use Rattle.session_laws.proofs.ear.Ear.next.Goals as goal

pub returns-in-Messages-clause-first : goal.returns-in-Messages-clause-first
returns-in-Messages-clause-first c = λ peer text knows.
    messages_known _ _ c.next_message.ensures.first peer text (subst (λ ear. KnowsFirst peer ear text) c.in-Messages.is knows)

pub returns-in-Lines-clause-first : goal.returns-in-Lines-clause-first
returns-in-Lines-clause-first c = λ peer text knows. lines_known _ _ peer text text (subst (λ ear. KnowsFirst peer ear text) c.in-Lines.is knows)
