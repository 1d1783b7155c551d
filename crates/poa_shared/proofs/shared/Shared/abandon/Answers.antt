use Rattle.std.proofs.Common.{subst, sym}
use Rattle.poa_core.specs.Answers.{Abandons}
use Rattle.poa_shared.proofs.Made.{abandons_made}
use Rattle.poa_shared.specs.Events.{Event}
use Rattle.poa_shared.proofs.Taking.{event, put_history}
use Rattle.poa_shared.proofs.shared.Shared.abandon.Goals as goal

pub put-requires-clause-history : goal.put-requires-clause-history
put-requires-clause-history g c =
    put_history c.args.seat.now.me.0 c.take-core.new.seat.me.0 c.take-core.ensures.view.0 c.take-core.result c.abandon.new.self c.take-core.ensures.view.1
    (abandons_made c.args.seat.now.me.0 c.take-core.result c.abandon.new.self c.args.worker c.abandon.ensures)

pub returns-clause-abandoned : goal.returns-clause-abandoned
returns-clause-abandoned g c =
    subst (λ m. Event (λ old new. Abandons c.args.worker old new) c.args.seat.now.me.0 m.0) (sym c.wake_all.ensures.2)
    (event c.args.seat.now.me.0 c.take-core.new.seat.me.0 c.take-core.ensures.view.0 c.take-core.result c.abandon.new.self c.take-core.ensures.view.1
    (abandons_made c.args.seat.now.me.0 c.take-core.result c.abandon.new.self c.args.worker c.abandon.ensures)
    c.put.new.seat.me.0 c.put.ensures.view (λ old new. Abandons c.args.worker old new) c.take-core.ensures.taken c.put.ensures.known c.is_legal-2.ensures
    c.abandon.ensures)
