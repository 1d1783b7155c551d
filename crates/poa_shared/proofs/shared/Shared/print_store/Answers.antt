use Rattle.std.proofs.Common.{inl, refl}
use Rattle.poa_shared.specs.Events.{PrintsStore}
use Rattle.poa_shared.proofs.Printed.{prints_store}
use Rattle.poa_shared.proofs.Taking.{event}
use Rattle.poa_shared.proofs.shared.Shared.print_store.Goals as goal

pub returns-clause-printed : goal.returns-clause-printed
returns-clause-printed g c =
    event c.args.seat.now.me.0 c.take-core.new.seat.me.0 c.take-core.ensures.view.0 c.take-core.result c.take-core.result c.take-core.ensures.view.1 (inl refl)
    c.put.new.seat.me.0 c.put.ensures.view (PrintsStore c.print_store-text.result) c.take-core.ensures.taken c.put.ensures.known c.is_legal.ensures
    (prints_store c.print_store-text.result c.take-core.result _ c.print_store-text.ensures c.store.ensures)
