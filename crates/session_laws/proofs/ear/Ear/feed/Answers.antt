use Rattle.std.proofs.Common.{◌++◌, sym, subst}
use Rattle.session_laws.proofs.Messages.{framer_fed}
use Rattle.session_laws.specs.HearingPieces.{KnowsFirst, OfEar}
use Rattle.session_laws.proofs.Answers.{on_ok}
use Rattle.session_laws.proofs.Firsts.{messages_fed, lines_known}
use Rattle.session_laws.proofs.ear.Ear.feed.Goals as goal

pub returns-in-Messages-clause-fed : goal.returns-in-Messages-clause-fed
returns-in-Messages-clause-fed c =
    on_ok c.feed.result _ _
    (λ fed next more stop w. subst (λ ear. OfEar ear (c.args.piece.now ++ next) more stop) (sym c.in-Messages.is)
    (framer_fed _ _ next more stop w c.args.piece.now fed))
    c.feed.ensures.fed

pub returns-in-Messages-clause-first : goal.returns-in-Messages-clause-first
returns-in-Messages-clause-first c =
    on_ok c.feed.result _ _
    (λ kept peer text knows. messages_fed _ _ c.args.piece.now kept peer text (subst (λ ear. KnowsFirst peer ear text) c.in-Messages.is knows))
    c.feed.ensures.first

pub returns-in-Lines-clause-first : goal.returns-in-Lines-clause-first
returns-in-Lines-clause-first c =
    on_ok c.feed-in-Lines.result _ _
    (λ fed peer text knows. lines_known _ _ peer text (text ++ c.args.piece.now) (subst (λ ear. KnowsFirst peer ear text) c.in-Lines.is knows))
    c.feed-in-Lines.ensures.fed
