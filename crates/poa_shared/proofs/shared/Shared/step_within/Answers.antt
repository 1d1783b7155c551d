use Rattle.poa_core.specs.Answers.{Steps}
use Rattle.poa_shared.proofs.Made.{steps_made}
use Rattle.poa_shared.proofs.Taking.{event, put_history}
use Rattle.poa_shared.proofs.shared.Shared.step_within.Goals as goal

pub put-requires-clause-history : goal.put-requires-clause-history
put-requires-clause-history g c =
    put_history c.args.seat.now.me.0 c.take-core.new.seat.me.0 c.take-core.ensures.view.0 c.take-core.result c.step_noted-result.new.core
    c.take-core.ensures.view.1
    (steps_made c.args.seat.now.me.0 c.take-core.result c.step_noted-result.new.core c.args.worker c.step_noted-result.result c.step_noted-result.ensures)

pub returns-clause-stepped : goal.returns-clause-stepped
returns-clause-stepped g c =
    event c.args.seat.now.me.0 c.take-core.new.seat.me.0 c.take-core.ensures.view.0 c.take-core.result c.step_noted-result.new.core c.take-core.ensures.view.1
    (steps_made c.args.seat.now.me.0 c.take-core.result c.step_noted-result.new.core c.args.worker c.step_noted-result.result c.step_noted-result.ensures)
    c.put.new.seat.me.0 c.put.ensures.view (λ old new. Steps c.args.worker old c.step_noted-result.result new) c.take-core.ensures.taken c.put.ensures.known
    c.is_legal-2.ensures c.step_noted-result.ensures
