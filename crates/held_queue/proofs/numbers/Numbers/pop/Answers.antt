use Rattle.std.proofs.lemmas.List.Sorted.{list_any-IsPermutation}
use Rattle.std.specs.Prelude.{◌==◌}
use Rattle.held_queue.proofs.Least.{bound_least}
use Rattle.held_queue.proofs.numbers.Numbers.pop.Goals as goal

pub returns-in-Some-clause-taken : goal.returns-in-Some-clause-taken
returns-in-Some-clause-taken c = λ r. list_any-IsPermutation (λ y. y.0 == r) _ _ c.in-Some.ensures.permutation

pub returns-in-Some-clause-least : goal.returns-in-Some-clause-least
returns-in-Some-clause-least c = bound_least c.in-Some.field-0 _ (c.in-Some.ensures.heap_order c.args.self.now.ordered).1
