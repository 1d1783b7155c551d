use Rattle.std.proofs.Common.{ℕ, Option, Result, Ok, sym, subst}
use Rattle.poa_journal.specs.declared.fault.JournalFault.{JournalFault}
use Rattle.journal_audit.specs.declared.matched.Matched.{Matched}
use Rattle.journal_audit.specs.declared.refusal.Refusal.{Refusal}
use Rattle.journal_audit.specs.Texts.{AuditsFront, AuditsLines}
use Rattle.journal_audit.proofs.Sound.{audited}
use Rattle.journal_audit.proofs.text.audit_entries.Goals as goal

pub returns : goal.returns
returns c =
    let front = c.args.front in
    let first = c.in_ok-watch.watch in
    let last = c.audit_lines-audited.new.watch in
    subst
    (λ (r : Option Refusal). AuditsFront c.args.config c.args.limit c.args.link front
    (Ok (record { entries = c.in_ok-entries.entries; first_line = front.opening.line; refusal = r; matched = c.in_ok-entries.matched })))
    (sym c.refusal_of-refusal.ensures)
    (audited c.args.config c.args.limit c.args.link front first last c.in_ok-watch.ensures.run c.in_ok-entries.entries c.in_ok-entries.matched
    (subst (λ (r : Result (ℕ × Option Matched) JournalFault). AuditsLines front.opening.line front.opening.rest.now first r last) c.in_ok-entries.was
    c.audit_lines-audited.ensures) c.in_ok-watch.ensures.link c.requires.room)
