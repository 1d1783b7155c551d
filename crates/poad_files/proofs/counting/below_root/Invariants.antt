use Rattle.std.proofs.Common.{◌≡◌, ◌≤◌, ◌+◌, drop}
use Rattle.poad_files.specs.Counts.{below_root}
use Rattle.poad_files.proofs.counting.below_root.Given as goal

abbrev pub invariant-loop-adapter : goal.invariant-loop-adapter
invariant-loop-adapter l = record {
  same : l.count + below_root (drop l.adapter-index l.adapters) ≡ below_root l.adapters;
  most : l.count ≤ l.adapter-index;
}
