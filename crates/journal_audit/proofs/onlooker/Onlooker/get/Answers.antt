use Rattle.std.proofs.Common.{IfSome, Option, refl, sym, subst}
use Rattle.core_outboxes.specs.declared.filed.Filed.{Filed}
use Rattle.session_laws.proofs.Answers.{on_ok}
use Rattle.journal_audit.specs.Looking.{Gets}
use Rattle.journal_audit.proofs.Looked.{looks_given}
use Rattle.journal_audit.proofs.onlooker.Onlooker.get.Goals as goal

pub returns-clause-gets : goal.returns-clause-gets
returns-clause-gets c =
    let o = c.args.self.now in
    let p = record o { written = c.give.new.self } in
    on_ok c.give.result _ _
    (λ more. subst (λ (given : Option Filed). IfSome given (λ (f : Filed). Gets f o p)) (sym c.in-Some.is)
    (λ life looks it. looks_given life o looks c.in-Some.filed p c.give.new.self refl it (λ _. more)))
    c.give.ensures
