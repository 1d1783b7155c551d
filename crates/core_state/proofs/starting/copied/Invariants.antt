use Rattle.std.proofs.Common.{◌≡◌, map, drop}
use Rattle.poa_base.specs.Rows.{row_seen}
use Rattle.core_state.proofs.RowsCopied.{with_rows}
use Rattle.core_state.proofs.starting.copied.Given as goal

abbrev pub invariant-loop-row : goal.invariant-loop-row
invariant-loop-row l = with_rows (map row_seen (drop l.row-index l.row-items)) l.copy ≡ with_rows (map row_seen l.row-items) l.initial.copy
