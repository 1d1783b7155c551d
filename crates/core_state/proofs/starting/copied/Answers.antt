use Rattle.std.proofs.Common.{◌∙◌, sym, ap, map}
use Rattle.std.proofs.lemmas.List.{drop_all}
use Rattle.poa_base.specs.Rows.{row_seen}
use Rattle.poa_base.specs.Store.{states}
use Rattle.core_state.proofs.RowsCopied.{with_rows, rows_copied}
use Rattle.core_state.proofs.starting.copied.Goals as goal

pub returns : goal.returns
returns c =
    rows_copied c.args.store.now c.loop-row.copy
    (sym (ap (λ rows. with_rows (map row_seen rows) c.loop-row.copy) (drop_all c.loop-row.row-index c.deref-row-items.result.now c.loop-row-test.false))
    ∙ (c.loop-row.invariant
    ∙ (ap (λ rows. with_rows rows c.new-copy.result) (ap (map row_seen) c.deref-row-items.ensures.value ∙ c.in_ok-rows.ensures)
    ∙ ap (λ slots. with_rows (states c.args.store.now) slots) c.new-copy.ensures)))
