-- The place is compared with that of the last that waits.
use Rattle.std.proofs.Common.{ap, sym, ◌∙◌, ◌-◌, length, slice_get}
use Rattle.poa_base.specs.Store.{states}
use Rattle.poa_journal.specs.Whole.{is_above}
use Rattle.poa_journal.proofs.Stored.{last_in}
use Rattle.poa_journal.proofs.shelving.Shelving.are_below.Goals as goal

pub returns-in-Some : goal.returns-in-Some
returns-in-Some c =
    let it = c.args.self.now in
    c.is_below.ensures
    ∙ ap (λ last. is_above last (c.args.path.now, c.args.oid.now))
    (sym (last_in (states it.store) it.path it.waiting.items c.in-Some.field-0.now
    (ap (λ items. slice_get items (length items - 1)) (sym c.deref.ensures.value) ∙ sym c.in-Some.ensures.value)))
