use Rattle.std.proofs.Common.{arith}
use Rattle.std.specs.BTreeMap as tree
use Rattle.poa_base.specs.Store.{path_cmp}
use Rattle.poad_files.specs.Objects.{references_text}
use Rattle.poad_files.proofs.Lines.{lines_more}
use Rattle.poad_files.proofs.objects.references.Goals as goal

pub loop-object-preserved : goal.loop-object-preserved
loop-object-preserved c =
    let inv = c.loop-object.invariant in
    let config = c.args.config.now in
    record {
      same = lines_more config (tree.get path_cmp c.in_ok-numbers.numbers) c.loop-object.out.items c.put_object.new.out.items
          (references_text config) c.as_slice-object-items.result.now c.loop-object.object-index
          c.loop-object.made c.made_with-made.result c.object-item.result c.loop-object-test.true c.object-item.is inv.same c.in_ok-put_object.ensures
          c.made_with-made.ensures.made;
      most = omega (arith, c.made_with-made.ensures.most, inv.most);
    }
