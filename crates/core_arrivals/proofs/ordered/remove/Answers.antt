use Rattle.std.proofs.Common.{rules, ◌≡◌, ◌<◌, ◌∙◌, length, slice_index_or}
use Rattle.core_arrivals.proofs.Taking.{first_taken}
use Rattle.core_arrivals.proofs.ordered.remove.Goals as goal

pub returns-then-first-number : goal.returns-then-first-number
returns-then-first-number c = λ up.
    (let xs = c.args.numbers.now.items in
    let some : 0 < length xs = search rules in
    let first : slice_index_or xs 0 c.args.number ≡ c.args.number = search rules in
    c.pop_front-first.ensures.rest ∙ first_taken c.args.number xs up some first)
