use Rattle.std.proofs.Common.{◌≡◌, drop, map}
use Rattle.poa_base.specs.Rows.{row_seen}
use Rattle.poad_load.specs.Counts.{sum_of, sum_with}
use Rattle.poad_load.proofs.sum.sum_rows.Given as goal

-- with the rows that are left it is the whole sum
abbrev pub invariant-loop-row : goal.invariant-loop-row
invariant-loop-row l = sum_with l.sum.value (map row_seen (drop l.row-index l.rows)) ≡ sum_of (map row_seen l.rows)
