use Rattle.std.proofs.Common.{Some, refl, sym, ◌∙◌}
use Rattle.journal_audit.proofs.Briefly.{gives_refused}
use Rattle.journal_audit.proofs.auditor.Auditor.follow.Goals as goal

pub returns-then-is_some-clause-gives : goal.returns-then-is_some-clause-gives
returns-then-is_some-clause-gives c = gives_refused c.args.entry c.args.self.now.run c.args.self.now.refusal (sym c.is_some.ensures ∙ c.if-is_some.true)

pub returns-in-Refused-clause-gives : goal.returns-in-Refused-clause-gives
returns-in-Refused-clause-gives c = gives_refused c.args.entry c.args.self.now.run (Some c.at.result) refl
