-- The same end, and what the messages changed.
use Rattle.std.proofs.Common.{ap, sym, ◌∙◌, arith}
use Rattle.poad_files.proofs.Causes.{cause_from}
use Rattle.poad_answer.specs.NamesRun.{end_of}
use Rattle.poad_answer.proofs.Named.{named, never_full}
use Rattle.poad_answer.proofs.names_run.serve_names.Goals as goal

pub names_end-requires : goal.names_end-requires
names_end-requires g c = never_full c.serve_source-end.result _ _ _ _ _ _ c.serve_source-end.ensures.serves

pub returns-clause-names : goal.returns-clause-names
returns-clause-names g c =
    named c.names_end.result c.serve_source-end.result _ _ _ _ _ _ c.new-contexts.ensures c.names_end.ensures
    c.serve_source-end.ensures.serves

pub returns-clause-read : goal.returns-clause-read
returns-clause-read g c =
    cause_from _ _ _ _ _ (omega arith) c.serve_source-end.ensures.read (λ e. sym c.names_end.ensures ∙ ap end_of e)

pub returns-clause-written : goal.returns-clause-written
returns-clause-written g c =
    cause_from _ _ _ _ _ (omega arith) c.serve_source-end.ensures.written (λ e. sym c.names_end.ensures ∙ ap end_of e)
