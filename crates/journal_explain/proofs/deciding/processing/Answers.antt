use Rattle.std.proofs.Common.{arith}
use Rattle.std.proofs.lemmas.Grind.{common_steps}
use Rattle.journal_explain.proofs.deciding.processing.Goals as goal

pub returns-in-DefaultServant-clause-row : goal.returns-in-DefaultServant-clause-row
returns-in-DefaultServant-clause-row c = grind (arith, common_steps, c.preset.ensures.row c.args.worker)
