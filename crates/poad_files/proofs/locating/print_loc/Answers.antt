-- The text is no written form.
use Rattle.std.proofs.Common.{arith}
use Rattle.poad_files.proofs.Causes.{cause_still}
use Rattle.poad_files.proofs.Refusing.{located_not, no_written_fault}
use Rattle.poad_files.proofs.locating.print_loc.Goals as goal

pub returns-in-Err-clause-locates : goal.returns-in-Err-clause-locates
returns-in-Err-clause-locates g c = located_not c.args.text.now c.in-Err.status (g.K.Sink.held c.args.sink.now) c.in-Err.ensures

pub returns-in-Err-clause-written : goal.returns-in-Err-clause-written
returns-in-Err-clause-written g c = cause_still _ _ _ (omega arith) (no_written_fault c.args.text.now c.in-Err.status c.in-Err.ensures)
