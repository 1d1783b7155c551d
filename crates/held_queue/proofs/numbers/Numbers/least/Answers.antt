use Rattle.held_queue.proofs.Least.{bound_least}
use Rattle.held_queue.proofs.numbers.Numbers.least.Goals as goal

pub returns-in-Some-clause-least : goal.returns-in-Some-clause-least
returns-in-Some-clause-least c = bound_least c.in-Some.field-0.now _ (c.in-Some.ensures.greatest c.args.self.now.ordered)
