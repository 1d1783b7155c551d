use Rattle.core_run.proofs.Turned.{not_run}
use Rattle.core_run.proofs.taking.take.Goals as goal

pub take_asked-requires-clause-kind : goal.take_asked-requires-clause-kind
take_asked-requires-clause-kind c = not_run c.args.entry c.in_default.not-Run
