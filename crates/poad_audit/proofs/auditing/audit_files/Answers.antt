use Rattle.command_words.specs.Auditing.{seen_audit}
use Rattle.poad_audit.proofs.Audited.{audits_read}
use Rattle.poad_audit.proofs.auditing.audit_files.Goals as goal

pub returns-in-Ok-take-clause-audits : goal.returns-in-Ok-take-clause-audits
returns-in-Ok-take-clause-audits g c =
    audits_read (seen_audit c.args.asked) c.in-Ok.config _ _ _ c.in-Ok.ensures.taken c.take_config.ensures.contents c.take.ensures.contents
    _ c.audit_journal.ensures.contents c.in-Ok-take.content _ _ c.in-Ok-take.ensures.taken c.audit_journal.result _ c.as_slice-text.ensures
    c.audit_journal.ensures.audits
