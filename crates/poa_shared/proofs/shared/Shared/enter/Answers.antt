use Rattle.poa_core.specs.Answers.{Enters}
use Rattle.poa_history.specs.Life.{givens_of}
use Rattle.poa_shared.proofs.Made.{enters_made}
use Rattle.poa_shared.proofs.Taking.{event, put_history, enters_hold}
use Rattle.poa_shared.proofs.shared.Shared.enter.Goals as goal

pub put-requires-clause-history : goal.put-requires-clause-history
put-requires-clause-history g c =
    put_history c.args.seat.now.me.0 c.take-core.new.seat.me.0 c.take-core.ensures.view.0 c.take-core.result c.enter-result.new.self c.take-core.ensures.view.1
    (enters_made c.args.seat.now.me.0 c.take-core.result c.enter-result.new.self c.take-core.ensures.taken.1 c.enter-result.result c.is_legal.ensures
    c.enter-result.ensures)

pub returns-clause-entered : goal.returns-clause-entered
returns-clause-entered g c =
    event c.args.seat.now.me.0 c.take-core.new.seat.me.0 c.take-core.ensures.view.0 c.take-core.result c.enter-result.new.self c.take-core.ensures.view.1
    (enters_made c.args.seat.now.me.0 c.take-core.result c.enter-result.new.self c.take-core.ensures.taken.1 c.enter-result.result c.is_legal.ensures
    c.enter-result.ensures)
    c.put.new.seat.me.0 c.put.ensures.view (λ old new. Enters old c.enter-result.result new) c.take-core.ensures.taken c.put.ensures.known c.is_legal-2.ensures
    c.enter-result.ensures

pub returns-clause-holds : goal.returns-clause-holds
returns-clause-holds g c =
    enters_hold c.args.seat.now.me.0 c.take-core.new.seat.me.0 c.take-core.ensures.view.0 c.take-core.result c.enter-result.new.self c.take-core.ensures.view.1
    (enters_made c.args.seat.now.me.0 c.take-core.result c.enter-result.new.self c.take-core.ensures.taken.1 c.enter-result.result c.is_legal.ensures
    c.enter-result.ensures)
    c.put.new.seat.me.0 c.put.ensures.view c.enter-result.result c.take-core.ensures.taken.1 c.is_legal.ensures c.enter-result.ensures

pub returns-clause-given : goal.returns-clause-given
returns-clause-given g c = (givens_of c.take-core.result, c.take-core.ensures.taken.0)
