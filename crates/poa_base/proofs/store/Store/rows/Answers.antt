use Rattle.std.proofs.Common.{arith}
use Rattle.std.proofs.lemmas.Grind.{common_steps}
use Rattle.poa_base.proofs.Rows.{more_rows, rows_of_shelves}
use Rattle.poa_base.proofs.store.Store.rows.Goals as goal

pub loop-path-preserved : goal.loop-path-preserved
loop-path-preserved c = grind (arith, common_steps, more_rows)

pub returns : goal.returns
returns c = grind (arith, common_steps, rows_of_shelves _ _ c.self.view_is c.self.invariant)
