use Rattle.std.proofs.Common.{◌≡◌, ◌≤◌, ◌+◌, drop}
use Rattle.std.specs.BTreeMap as tree
use Rattle.poa_base.specs.Store.{path_cmp}
use Rattle.poad_files.specs.Numbers.{numbered, numbers_of}
use Rattle.poad_files.proofs.numbering.adapter_numbers.Given as goal

abbrev pub invariant-loop-adapter : goal.invariant-loop-adapter
invariant-loop-adapter l = record {
  same : numbered (tree.get path_cmp l.numbers) l.next (drop l.adapter-index l.adapters) ≡ numbers_of l.adapters;
  most : l.next ≤ l.adapter-index + 1;
}
