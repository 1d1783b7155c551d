use Rattle.core_run.proofs.Connected.{left_room, left_kept}
use Rattle.core_run.proofs.Ready.{desk_kept}
use Rattle.core_run.proofs.connecting.leave.Goals as goal

pub quiet-requires-clause-room : goal.quiet-requires-clause-room
quiet-requires-clause-room c = left_room c.args.conn c.args.inside.now c.requires.kept c.requires.conn

pub returns-clause-kept : goal.returns-clause-kept
returns-clause-kept c =
    desk_kept c.quiet.new.inside c.leave.new.self
    (left_kept c.args.conn c.args.inside.now c.quiet.new.inside c.requires.kept c.requires.conn c.quiet.ensures)
    c.leave.ensures.owing c.leave.ensures.files
