use Rattle.poa_history.specs.Life.{givens_of}
use Rattle.poa_shared.specs.Events.{CollectsFitting}
use Rattle.poa_shared.proofs.Holding.{owned_entered}
use Rattle.poa_shared.proofs.Made.{collects_made, collects_stay}
use Rattle.poa_shared.proofs.Taking.{event, holds_after, put_history}
use Rattle.poa_shared.proofs.shared.Shared.collect_within.Goals as goal

pub put-requires-clause-history : goal.put-requires-clause-history
put-requires-clause-history g c =
    put_history c.args.seat.now.me.0 c.take-core.new.seat.me.0 c.take-core.ensures.view.0 c.take-core.result c.collect-result.new.self
    c.take-core.ensures.view.1
    (collects_made c.args.seat.now.me.0 c.take-core.result c.collect-result.new.self c.take-core.ensures.taken.1 c.args.conn c.collect-result.result
    c.requires.conn c.collect-result.ensures.collects)

pub returns-clause-collected : goal.returns-clause-collected
returns-clause-collected g c =
    event c.args.seat.now.me.0 c.take-core.new.seat.me.0 c.take-core.ensures.view.0 c.take-core.result c.collect-result.new.self c.take-core.ensures.view.1
    (collects_made c.args.seat.now.me.0 c.take-core.result c.collect-result.new.self c.take-core.ensures.taken.1 c.args.conn c.collect-result.result
    c.requires.conn c.collect-result.ensures.collects)
    c.put.new.seat.me.0 c.put.ensures.view (CollectsFitting c.args.conn c.collect-result.result) c.take-core.ensures.taken c.put.ensures.known
    c.is_legal-2.ensures (c.collect-result.ensures.collects, c.collect-result.ensures.fits)

pub collect-result-requires : goal.collect-result-requires
collect-result-requires g c =
    owned_entered c.args.seat.now.me.0 c.take-core.result.history c.take-core.ensures.taken.1
    (givens_of c.take-core.result) c.is_legal.ensures c.args.conn c.requires.conn

pub returns-clause-holds : goal.returns-clause-holds
returns-clause-holds g c =
    λ conn holds. holds_after c.args.seat.now.me.0 c.take-core.new.seat.me.0 c.take-core.ensures.view.0 c.take-core.result c.collect-result.new.self
    c.take-core.ensures.view.1
    (collects_made c.args.seat.now.me.0 c.take-core.result c.collect-result.new.self c.take-core.ensures.taken.1 c.args.conn c.collect-result.result
    c.requires.conn c.collect-result.ensures.collects)
    c.put.new.seat.me.0 c.put.ensures.view conn c.take-core.ensures.taken.1 holds
    (collects_stay c.take-core.result c.collect-result.new.self c.args.conn conn c.collect-result.result c.collect-result.ensures.collects)
