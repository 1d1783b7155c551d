use Rattle.core_run.proofs.Connected.{entered_kept}
use Rattle.core_run.proofs.connecting.enter.Goals as goal

pub returns-clause-kept : goal.returns-clause-kept
returns-clause-kept c =
    entered_kept c.args.conn c.make_room.new.inside c.quiet.new.inside c.in_ok-make_room.ensures.ready c.quiet.ensures
