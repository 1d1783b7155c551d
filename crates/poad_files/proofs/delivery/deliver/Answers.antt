-- Each write takes a front of what is left, and a failed one nothing.
use Rattle.std.proofs.Common.{arith}
use Rattle.poad_files.proofs.Delivered.{delivered_on, delivered_part}
use Rattle.poad_files.proofs.delivery.deliver.Goals as goal

pub loop-rest-preserved : goal.loop-rest-preserved
loop-rest-preserved g c = (
  delivered_on _ _ _ c.args.bytes.now c.loop-rest.rest.now c.in-Wrote.count c.loop-rest.invariant.0 c.in-Wrote.ensures.bytes,
  omega (arith, c.loop-rest.invariant.1, c.in-Wrote.ensures.failed.later),
)

pub returns-in-Failed-clause-held : goal.returns-in-Failed-clause-held
returns-in-Failed-clause-held g c = delivered_part _ _ _ c.args.bytes.now c.loop-rest.rest.now c.loop-rest.invariant.0 c.in-Failed.ensures.bytes
