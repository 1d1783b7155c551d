-- The run was begun, or not; and served the source.
use Rattle.poad_files.proofs.Causes.{cause_from}
use Rattle.std.proofs.Common.{arith}
use Rattle.poad_answer.proofs.Answered.{answered, answered_none, read_fault_so, write_fault_so}
use Rattle.poad_answer.proofs.Worked.{serving_first}
use Rattle.poad_answer.proofs.answering.answer.Goals as goal

pub returns-in_default-clause-answers : goal.returns-in_default-clause-answers
returns-in_default-clause-answers g c = answered_none c.args.config _ _

pub serve_source-end-requires-clause-fits : goal.serve_source-end-requires-clause-fits
serve_source-end-requires-clause-fits g c = record {
  serving = serving_first c.args.config _ c.in-Ok.ensures.life;
  legal = c.in-Ok.ensures.legal;
}

pub returns-clause-answers : goal.returns-clause-answers
returns-clause-answers g c =
    answered c.args.config c.status_of.result c.serve_source-end.result _ _ _ _ _ _ c.in-Ok.ensures.life
    c.status_of.ensures c.serve_source-end.ensures.serves

pub returns-clause-read : goal.returns-clause-read
returns-clause-read g c =
    cause_from _ _ _ _ _ (omega arith) c.serve_source-end.ensures.read (read_fault_so c.serve_source-end.result c.status_of.result _ c.status_of.ensures)

pub returns-clause-written : goal.returns-clause-written
returns-clause-written g c =
    cause_from _ _ _ _ _ (omega arith) c.serve_source-end.ensures.written (write_fault_so c.serve_source-end.result c.status_of.result _ c.status_of.ensures)
