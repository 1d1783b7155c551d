-- The text gives no reference.
use Rattle.std.proofs.Common.{arith}
use Rattle.poad_files.proofs.Causes.{cause_still}
use Rattle.poad_files.proofs.Refusing.{shown_not, no_fault}
use Rattle.poad_files.proofs.showing.show_text.Goals as goal

pub returns-in-Err-clause-tells : goal.returns-in-Err-clause-tells
returns-in-Err-clause-tells g c = shown_not c.args.text.now c.in-Err.status (g.K.Sink.held c.args.sink.now) c.in-Err.ensures

pub returns-in-Err-clause-written : goal.returns-in-Err-clause-written
returns-in-Err-clause-written g c = cause_still _ _ _ (omega arith) (no_fault c.args.text.now c.in-Err.status c.in-Err.ensures)
