use Rattle.poad_load.proofs.Summed.{rows_end, rows_more}
use Rattle.poad_load.proofs.sum.sum_rows.Goals as goal

pub loop-row-preserved : goal.loop-row-preserved
loop-row-preserved c =
    rows_more c.args.rows.now c.loop-row.row-index c.row-item.result c.loop-row-test.true c.row-item.is _ c.in_ok-sum.sum.value c.in_ok-sum.ensures
    c.loop-row.invariant

pub returns : goal.returns
returns c = rows_end c.args.rows.now c.loop-row.row-index c.loop-row-test.false _ c.loop-row.invariant
