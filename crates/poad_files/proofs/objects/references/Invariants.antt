use Rattle.std.proofs.Common.{◌≡◌, ◌≤◌, ◌++◌, drop}
use Rattle.std.specs.BTreeMap as tree
use Rattle.poa_base.specs.Store.{path_cmp}
use Rattle.poad_files.specs.Objects.{lines, references_text}
use Rattle.poad_files.proofs.objects.references.Given as goal

abbrev pub invariant-loop-object : goal.invariant-loop-object
invariant-loop-object l = record {
  same : l.out.items ++ lines l.config (tree.get path_cmp l.numbers) l.made (drop l.object-index l.object-items) ≡ references_text l.config;
  most : l.made ≤ l.object-index;
}
