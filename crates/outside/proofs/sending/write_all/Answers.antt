use Rattle.outside.proofs.Written.{written_on}
use Rattle.outside.proofs.sending.write_all.Goals as goal

pub loop-rest-preserved : goal.loop-rest-preserved
loop-rest-preserved g c = written_on _ _ _ c.args.bytes.now c.loop-rest.rest.now c.in-Wrote.count c.loop-rest.invariant c.in-Wrote.ensures.bytes
