use Rattle.std.proofs.Common.{◌≡◌, subst, sym}
use Rattle.poa_base.specs.declared.Entry.TheVariants.{Left}
use Rattle.poa_history.specs.Life.{givens_of, with_entry}
use Rattle.poa_shared.proofs.Holding.{held_open}
use Rattle.poa_shared.proofs.Made.{leaves_made}
use Rattle.poa_shared.specs.Events.{Event}
use Rattle.poa_shared.proofs.Taking.{event, put_history}
use Rattle.poa_shared.proofs.shared.Shared.leave.Goals as goal

pub put-requires-clause-history : goal.put-requires-clause-history
put-requires-clause-history g c =
    put_history c.args.seat.now.me.0 c.take-core.new.seat.me.0 c.take-core.ensures.view.0 c.take-core.result c.leave.new.self c.take-core.ensures.view.1
    (leaves_made c.args.seat.now.me.0 c.take-core.result c.leave.new.self c.take-core.ensures.taken.1 c.args.conn c.requires.conn.owns c.leave.ensures)

pub returns-clause-left : goal.returns-clause-left
returns-clause-left g c =
    subst (λ m. Event (λ old new. new ≡ with_entry (Left c.args.conn) old) c.args.seat.now.me.0 m.0) (sym c.wake_workers.ensures.2)
    (event c.args.seat.now.me.0 c.take-core.new.seat.me.0 c.take-core.ensures.view.0 c.take-core.result c.leave.new.self c.take-core.ensures.view.1
    (leaves_made c.args.seat.now.me.0 c.take-core.result c.leave.new.self c.take-core.ensures.taken.1 c.args.conn c.requires.conn.owns c.leave.ensures)
    c.put.new.seat.me.0 c.put.ensures.view (λ old new. new ≡ with_entry (Left c.args.conn) old) c.take-core.ensures.taken c.put.ensures.known
    c.is_legal-2.ensures c.leave.ensures)

pub leave-requires : goal.leave-requires
leave-requires g c =
    held_open c.args.seat.now.me.0 c.take-core.result.history c.take-core.ensures.taken.1
    (givens_of c.take-core.result) c.is_legal.ensures c.args.conn c.requires.conn
