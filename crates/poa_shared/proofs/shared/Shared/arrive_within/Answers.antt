use Rattle.poa_core.specs.Answers.{Arrives}
use Rattle.poa_shared.proofs.Holding.{held_open}
use Rattle.poa_history.specs.Life.{givens_of}
use Rattle.poa_shared.proofs.Made.{arrives_made, arrives_stay}
use Rattle.poa_shared.proofs.Taking.{event, put_history, holds_after}
use Rattle.poa_shared.proofs.shared.Shared.arrive_within.Goals as goal

pub put-requires-clause-history : goal.put-requires-clause-history
put-requires-clause-history g c =
    put_history c.args.seat.now.me.0 c.take-core.new.seat.me.0 c.take-core.ensures.view.0 c.take-core.result c.arrive-result.new.self c.take-core.ensures.view.1
    (arrives_made c.args.seat.now.me.0 c.take-core.result c.arrive-result.new.self c.take-core.ensures.taken.1 c.args.conn c.args.call c.args.size
    c.arrive-result.result c.requires.conn.owns c.arrive-result.ensures)

pub returns-clause-arrived : goal.returns-clause-arrived
returns-clause-arrived g c =
    event c.args.seat.now.me.0 c.take-core.new.seat.me.0 c.take-core.ensures.view.0 c.take-core.result c.arrive-result.new.self c.take-core.ensures.view.1
    (arrives_made c.args.seat.now.me.0 c.take-core.result c.arrive-result.new.self c.take-core.ensures.taken.1 c.args.conn c.args.call c.args.size
    c.arrive-result.result c.requires.conn.owns c.arrive-result.ensures)
    c.put.new.seat.me.0 c.put.ensures.view (λ old new. Arrives c.args.conn c.args.call c.args.size old c.arrive-result.result new) c.take-core.ensures.taken
    c.put.ensures.known c.is_legal-2.ensures c.arrive-result.ensures

pub arrive-result-requires-clause-conn : goal.arrive-result-requires-clause-conn
arrive-result-requires-clause-conn g c =
    held_open c.args.seat.now.me.0 c.take-core.result.history c.take-core.ensures.taken.1
    (givens_of c.take-core.result) c.is_legal.ensures c.args.conn c.requires.conn

pub returns-clause-holds : goal.returns-clause-holds
returns-clause-holds g c =
    holds_after c.args.seat.now.me.0 c.take-core.new.seat.me.0 c.take-core.ensures.view.0 c.take-core.result c.arrive-result.new.self c.take-core.ensures.view.1
    (arrives_made c.args.seat.now.me.0 c.take-core.result c.arrive-result.new.self c.take-core.ensures.taken.1 c.args.conn c.args.call c.args.size
    c.arrive-result.result c.requires.conn.owns c.arrive-result.ensures)
    c.put.new.seat.me.0 c.put.ensures.view c.args.conn c.take-core.ensures.taken.1 c.requires.conn
    (arrives_stay c.args.seat.now.me.0 c.take-core.result c.arrive-result.new.self c.args.conn c.args.conn c.args.call c.args.size c.arrive-result.result
    c.arrive-result.ensures)
