use Rattle.std.proofs.Common.{ap, ◌∙◌}
use Rattle.std.specs.List.{insert}
use Rattle.core_arrivals.proofs.Taking.{ok_given}
use Rattle.core_arrivals.proofs.ordered.insert.Goals as goal

pub returns : goal.returns
returns c =
    ok_given c.insert-room.result c.insert-room.ensures.full c.requires c.insert-room.ensures.items
    ∙ ap (λ m. insert c.args.numbers.now.items m c.args.number) c.place_for-place.ensures.place
