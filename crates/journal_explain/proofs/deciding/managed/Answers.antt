use Rattle.std.proofs.Common.{arith}
use Rattle.std.proofs.lemmas.Grind.{common_steps}
use Rattle.journal_explain.proofs.deciding.managed.Goals as goal

pub returns-then-retains-clause-row : goal.returns-then-retains-clause-row
returns-then-retains-clause-row c = grind (arith, common_steps, c.activator.ensures.row c.args.worker)

pub returns-else-retains-clause-row : goal.returns-else-retains-clause-row
returns-else-retains-clause-row c = grind (arith, common_steps, c.locator.ensures.row c.args.worker)
