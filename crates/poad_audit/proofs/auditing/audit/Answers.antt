use Rattle.std.proofs.Common.{ℕ, Err, sym, subst}
use Rattle.journal_audit.specs.Texts.{Audits, AuditsText}
use Rattle.poad_files.specs.declared.status.Status.{Status}
use Rattle.poad_audit.specs.Auditing.{AuditsBytes}
use Rattle.poad_audit.proofs.Audited.{audits_told, unread}
use Rattle.poad_audit.proofs.auditing.audit.Goals as goal

pub returns-in-Ok-clause-audits : goal.returns-in-Ok-clause-audits
returns-in-Ok-clause-audits g c =
    audits_told c.args.config c.args.limit c.args.text.now c.args.link c.in-Ok.report c.tell.result _ _
    (subst (λ (n : ℕ). Audits c.args.config n c.args.text.now c.args.link c.in-Ok.report) c.from.ensures c.in-Ok.ensures) c.tell.ensures.tells

pub returns-in-Err-clause-audits : goal.returns-in-Err-clause-audits
returns-in-Err-clause-audits g c =
    let held = g.K.Sink.held c.args.sink.now in
    subst (λ (s : Status). AuditsBytes c.args.config c.args.limit c.args.text.now c.args.link s held held) (sym c.refusal.ensures)
    (unread c.args.config c.args.limit c.args.text.now c.args.link c.in-Err.fault held
    (subst (λ (n : ℕ). AuditsText c.args.config n c.args.text.now c.args.link (Err c.in-Err.fault)) c.from.ensures c.in-Err.ensures))
