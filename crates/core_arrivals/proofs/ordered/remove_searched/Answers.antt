use Rattle.std.proofs.Common.{◌∙◌, subst}
use Rattle.std.specs.List.Sorted.{IsBinarySearchResult}
use Rattle.std.specs.Ordering.{nat_cmp}
use Rattle.core_arrivals.proofs.Taking.{found_taken, not_found, some_given}
use Rattle.core_arrivals.proofs.ordered.remove_searched.Goals as goal

pub returns-in-Ok : goal.returns-in-Ok
returns-in-Ok c = λ up.
    (let xs = c.args.numbers.now.items in
    let at = subst (IsBinarySearchResult (λ y. nat_cmp y c.args.number) xs) c.in-Ok.is c.binary_search.ensures.position in
    some_given c.remove-taken.result (c.remove-taken.ensures.variant.1 c.in-Ok.ensures.bound) c.remove-taken.ensures.items
    ∙ found_taken xs c.args.number c.in-Ok.place up at)

pub returns-in_default : goal.returns-in_default
returns-in_default c = λ up.
    (let xs = c.args.numbers.now.items in
    not_found xs c.args.number c.in_default.field-0 up
    (subst (IsBinarySearchResult (λ y. nat_cmp y c.args.number) xs) c.in_default.is c.binary_search.ensures.position))
