use Rattle.std.proofs.Common.{length}
use Rattle.poa_journal.specs.Shelving.{HasBegun, IsShelving, rows_in}
use Rattle.poa_journal.proofs.Fronts.{RowsRead}
use Rattle.poa_journal.proofs.rows.read_rows.Given as goal

abbrev pub invariant-loop-next : goal.invariant-loop-next
invariant-loop-next l = IsShelving l.rows × HasBegun l.rows × RowsRead l.fn.first l.fn.text (rows_in l.rows) l.line l.rest

abbrev pub decreases-loop-next : goal.decreases-loop-next
decreases-loop-next l = length l.rest
