use Rattle.std.proofs.Common.{inl, refl}
use Rattle.poa_shared.specs.Events.{PrintsJournal}
use Rattle.poa_shared.proofs.Printed.{prints}
use Rattle.poa_shared.proofs.Taking.{event}
use Rattle.poa_shared.proofs.shared.Shared.print_journal.Goals as goal

pub returns-clause-printed : goal.returns-clause-printed
returns-clause-printed g c =
    event c.args.seat.now.me.0 c.take-core.new.seat.me.0 c.take-core.ensures.view.0 c.take-core.result c.take-core.result c.take-core.ensures.view.1 (inl refl)
    c.put.new.seat.me.0 c.put.ensures.view (PrintsJournal c.print_parts-text.result) c.take-core.ensures.taken c.put.ensures.known c.is_legal.ensures
    (prints c.print_parts-text.result c.take-core.result _ _ _ c.print_parts-text.ensures c.run.ensures c.opening.ensures c.entries.ensures.entries)
