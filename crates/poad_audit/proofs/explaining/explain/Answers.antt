use Rattle.std.proofs.Common.{ℕ, subst}
use Rattle.journal_explain.specs.Explaining.{Explains}
use Rattle.poad_audit.proofs.Explained.{explains_told}
use Rattle.poad_audit.proofs.explaining.explain.Goals as goal

pub returns-in-Ok-clause-explains : goal.returns-in-Ok-clause-explains
returns-in-Ok-clause-explains g c =
    explains_told c.args.config c.args.limit c.args.asked c.args.text.now c.in-Ok.found c.tell.result _ _
    (subst (λ (n : ℕ). Explains c.args.config n c.args.asked c.args.text.now c.in-Ok.found) c.from.ensures c.in-Ok.ensures) c.tell.ensures.tells
