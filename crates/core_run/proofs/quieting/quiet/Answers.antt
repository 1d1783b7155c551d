use Rattle.std.proofs.Common.{sym, subst}
use Rattle.history_standing.specs.declared.stage.Stage.TheVariants.{Free}
use Rattle.core_run.specs.Agrees.{history}
use Rattle.core_run.specs.Noting.{IsHalfway}
use Rattle.core_run.proofs.Quieted.{quiet_halfway}
use Rattle.core_run.proofs.quieting.quiet.Goals as goal

pub note-requires-clause-halfway : goal.note-requires-clause-halfway
note-requires-clause-halfway c =
    (let i = c.args.inside.now in
    subst (λ b. IsHalfway (history i) c.args.entry Free b i) (sym c.nothing.ensures)
    (quiet_halfway (history i) c.args.entry i c.requires.quiet))
