use Rattle.std.proofs.Common.{◌≡◌, ◌++◌, map, take, drop}
use Rattle.held_queue.specs.Rows as of_rows
use Rattle.held_queue.proofs.rows.free.Given as goal

abbrev pub invariant-loop-row : goal.invariant-loop-row
invariant-loop-row l = l.row-items ≡ map (of_rows.freed_row l.freed) (take l.row-index l.fn.rows.items) ++ drop l.row-index l.fn.rows.items
