use Rattle.std.proofs.Common.{ap, ◌++◌, ◌∙◌}
use Rattle.poad_audit.specs.Table.{tally_line}
use Rattle.poad_audit.proofs.Lines.{line_here}
use Rattle.poad_audit.proofs.table.put_tallies.Goals as goal

pub loop-outcome-preserved : goal.loop-outcome-preserved
loop-outcome-preserved c =
    line_here (tally_line c.args.came.now) c.args.outcomes.now c.loop-outcome.outcome-index _ c.loop-outcome-test.true _ c.in_ok-line.line _ _ c.in_ok-line.ensures
    (c.in_ok-extend_from_slice.ensures.items ∙ ap (λ bs. c.loop-outcome.out.items ++ bs) c.as_slice.ensures) c.loop-outcome.invariant
