use Rattle.poa_session.proofs.Collects.{given_here, spelled_here}
use Rattle.poa_session.proofs.replies.spell_all.Goals as goal

pub spell-requires : goal.spell-requires
spell-requires c =
    (given_here c.args.given.now c.loop-collected.collected-index c.collected-item.result c.loop-collected-test.true c.collected-item.is
    c.loop-collected.invariant.given).0

pub loop-collected-preserved : goal.loop-collected-preserved
loop-collected-preserved c = record {
  bytes = spelled_here c.args.given.now c.loop-collected.collected-index c.collected-item.result c.loop-collected-test.true c.collected-item.is
      _ _ _ c.in_ok-spell.ensures c.loop-collected.invariant.bytes;
  given = (given_here c.args.given.now c.loop-collected.collected-index c.collected-item.result c.loop-collected-test.true c.collected-item.is
      c.loop-collected.invariant.given).1;
}
