use Rattle.std.proofs.Common.{◌≡◌, ◌<◌, ℕ, List, length, slice_index_or}
use Rattle.poa_base.specs.declared.Config.{Config}
use Rattle.poa_base.specs.declared.Entry.{Entry}
use Rattle.history_standing.specs.Changes.{standing}
use Rattle.held_queue.specs.Held.{RowsAgree}
use Rattle.held_queue.specs.Rows.{IsSettledRow}
use Rattle.held_queue.specs.declared.row.Row.{Row}
use Rattle.held_queue.proofs.rows.settle.Given as goal

abbrev pub invariant-loop-i : goal.invariant-loop-i
invariant-loop-i l = record {
  kept : (c : Config) (run : ℕ) (h : List Entry) → l.flights ≡ (standing c run h).flights → RowsAgree c run h l.fn.ready.heap l.fn.rows.items
      → RowsAgree c run h l.ready.heap l.rows.items;
  many : length l.rows.items ≡ length l.fn.rows.items;
  settled : (j : ℕ) (d : Row) → j < l.i → IsSettledRow l.worker l.ready.heap (slice_index_or l.rows.items j d);
}
