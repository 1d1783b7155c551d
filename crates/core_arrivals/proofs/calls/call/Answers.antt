use Rattle.std.proofs.Common.{ap, reverse, sym, ◌∙◌}
use Rattle.std.proofs.lemmas.List.{reverse-reverse}
use Rattle.core_arrivals.specs.Placed.{entry_of, call_in}
use Rattle.core_arrivals.proofs.Placing.{call_told}
use Rattle.core_arrivals.proofs.calls.call.Goals as goal

pub returns : goal.returns
returns c = λ knows.
    c.call_in.ensures
    ∙ (ap call_in
    (c.entry_of.ensures
    ∙ (ap (λ ps. entry_of c.args.entries.now.items ps c.args.arrival) c.deref.ensures.value
    ∙ ap (λ es. entry_of es c.args.calls.now.places.items c.args.arrival) (sym (reverse-reverse c.args.entries.now.items))))
    ∙ call_told (reverse c.args.entries.now.items) c.args.calls.now.places.items knows c.args.arrival)
