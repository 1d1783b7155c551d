use Rattle.std.proofs.Common.{◌≡◌, ◌≤◌, drop}
use Rattle.poad_audit.specs.Table.{no_call, tallied}
use Rattle.poad_audit.proofs.tally.tally_of.Given as goal

abbrev pub invariant-loop-call : goal.invariant-loop-call
invariant-loop-call l = record {
  tallied : tallied l.outcome l.tally (drop l.call-index l.came) ≡ tallied l.outcome no_call l.came;
  count : l.tally.count ≤ l.call-index;
}
