use Rattle.core_run.proofs.Abandoned.{abandoned_kept, abandoned_room}
use Rattle.core_run.proofs.abandoning.abandon.Goals as goal

pub quiet-requires-clause-room : goal.quiet-requires-clause-room
quiet-requires-clause-room c = abandoned_room c.args.worker c.args.inside.now c.requires.kept c.requires.worker c.requires.going

pub returns-clause-kept : goal.returns-clause-kept
returns-clause-kept c =
    abandoned_kept c.args.worker c.args.inside.now c.requires.kept c.requires.worker c.requires.going c.quiet.new.inside c.quiet.ensures
