use Rattle.object_key.proofs.Names.{written_more, names_more}
use Rattle.object_key.proofs.writing.write_path.Goals as goal

pub loop-name-preserved : goal.loop-name-preserved
loop-name-preserved c = record {
  bytes = written_more _ _ _ _ _ _ _ c.loop-name-test.true c.name-item.is c.loop-name.invariant.bytes c.in_ok-write_name.ensures.bytes;
  names = names_more _ _ _ c.loop-name-test.true c.name-item.is c.loop-name.invariant.names c.in_ok-write_name.ensures.name;
}
