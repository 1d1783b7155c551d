use Rattle.std.proofs.Common.{Option, subst}
use Rattle.journal_audit.specs.Looking.{MatchesIn}
use Rattle.journal_audit.specs.Matching.{LinkBytes}
use Rattle.journal_audit.proofs.text.audit_lines.Goals as goal

pub returns : goal.returns
returns c =
    let last = c.take_lines.new.watch in
    let taken = c.in_ok-entries.ensures in
    record {
      last = last;
      taken = taken;
      sound = record {
        legal = c.keeps_laws.ensures.legal;
        lifetime = c.keeps_laws.ensures.lifetime;
        undone = c.keeps_laws.ensures.undone;
        updates = c.keeps_laws.ensures.updates;
      };
      told = subst (λ (link : Option LinkBytes). MatchesIn last.auditor.refusal last.auditor.run link c.in_ok-matched.matched) taken.link c.in_ok-matched.ensures.matched;
      refusal = c.matched.ensures.refusal;
    }
