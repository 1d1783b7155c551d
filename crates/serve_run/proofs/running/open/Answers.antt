use Rattle.seat_lock.specs.Seats.{view}
use Rattle.poa_history.specs.Life.{givens_of}
use Rattle.serve_run.proofs.Opened.{opened}
use Rattle.serve_run.proofs.running.open.Goals as goal

pub returns-clause-opened : goal.returns-clause-opened
returns-clause-opened g c =
    opened (givens_of c.args.core) c.in-Ok-enter._first c.args.core.history c.requires c.enter.result c.in-Ok-enter.is (view c.in-Ok.seat)
    (view c.enter.new.seat) c.in-Ok.ensures.view c.enter.ensures.entered
