use Rattle.std.proofs.Common.{sym}
use Rattle.std.proofs.lemmas.List.Sorted.{list_any-IsPermutation}
use Rattle.std.specs.Prelude.{◌==◌}
use Rattle.held_queue.proofs.Least.{at_ok}
use Rattle.held_queue.proofs.numbers.Numbers.push_reserved.Goals as goal

pub returns : goal.returns
returns c = λ r. sym (list_any-IsPermutation (λ y. y.0 == r) _ _ (at_ok c.push.result (c.push.ensures.succeeds c.requires) c.push.ensures.permutation))
