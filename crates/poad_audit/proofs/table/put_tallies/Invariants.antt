use Rattle.std.proofs.Common.{◌≡◌, ◌++◌, drop}
use Rattle.poad_audit.specs.Story.{lines_by}
use Rattle.poad_audit.specs.Table.{tally_line}
use Rattle.poad_audit.proofs.table.put_tallies.Given as goal

abbrev pub invariant-loop-outcome : goal.invariant-loop-outcome
invariant-loop-outcome l = l.out.items ++ lines_by (tally_line l.came) (drop l.outcome-index l.outcomes) ≡ l.initial.out.items ++ lines_by (tally_line l.came) l.outcomes
