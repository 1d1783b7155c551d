-- It is known in which version it is closed, or not; and all was written, or not.
use Rattle.std.proofs.Common.{refl}
use Rattle.poad_files.proofs.Causes.{cause_still}
use Rattle.poad_answer.specs.Closing.{closes, unknown}
use Rattle.poad_answer.proofs.Pieces.{closed_so}
use Rattle.poad_answer.proofs.closing.close.Goals as goal

pub returns-in_default-clause-closes : goal.returns-in_default-clause-closes
returns-in_default-clause-closes g c = unknown refl refl

pub returns-then-not-write_all-clause-closes : goal.returns-then-not-write_all-clause-closes
returns-then-not-write_all-clause-closes g c = closes c.in-Ok.minor c.in-Ok.ensures.first c.if-not-write_all.ensures.held tt

pub returns-clause-closes : goal.returns-clause-closes
returns-clause-closes g c =
    closed_so c.end_of.result c.args.why c.args.input c.args.replies.now _ _ c.in-Ok.minor c.in-Ok.ensures.first c.if-not-write_all.ensures.held c.end_of.ensures.ends

pub returns-clause-written : goal.returns-clause-written
returns-clause-written g c = cause_still _ _ _ c.write_all.ensures.failed.later c.end_of.ensures.no_fault
