use Rattle.std.proofs.Common.{rules}
use Rattle.poad_load.proofs.Summed.{lines_same}
use Rattle.poad_load.proofs.printing.load_lines.Goals as goal

pub returns-clause-tells : goal.returns-clause-tells
returns-clause-tells c = record {
  slots = c.store.result.now;
  stores = c.store.ensures;
  told = lines_same c.args.calls c.tally_of-counted.result.entries c.tally_of-counted.result.incarnations c.tally_of-counted.result.etherealized _ _ _ _ _
      c.in_ok-sum.sum.value _
      c.in_ok-text.text.items
      c.in_ok-text.ensures c.tally_of-counted.ensures.entries c.tally_of-counted.ensures.incarnations c.tally_of-counted.ensures.etherealized
      (search rules) c.in_ok-sum.ensures;
}
