use Rattle.std.proofs.Common.{sym, ◌∙◌, arith}
use Rattle.journal_audit.proofs.Ended.{last_paid_by, unpaid}
use Rattle.journal_audit.proofs.onlooker.is_paid.Goals as goal

pub returns-then-owed-eq0 : goal.returns-then-owed-eq0
returns-then-owed-eq0 c =
    last_paid_by c.args.run.now c.args.conn c.keeps_laws.ensures.legal c.collect.result c.collect.new.self c.is_none.result c.is_none.ensures
    c.collect.ensures (sym c.owed.ensures ∙ c.if-owed-eq0.true)

pub returns-else-owed-eq0 : goal.returns-else-owed-eq0
returns-else-owed-eq0 c =
    unpaid c.args.run.now c.args.conn c.keeps_laws.ensures.legal c.owed.result c.owed.ensures (λ same. omega (arith, same, c.if-owed-eq0.false))
