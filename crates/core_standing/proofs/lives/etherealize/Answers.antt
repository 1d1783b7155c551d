use Rattle.std.proofs.Common.{true}
use Rattle.history_standing.specs.Changes.{at_number}
use Rattle.core_standing.proofs.Still.{changed_each, still_told}
use Rattle.core_standing.proofs.lives.etherealize.Goals as goal

pub returns : goal.returns
returns c =
    changed_each c.args.standing.now _ (at_number c.args.number (λ a. record a { etherealized = true })) (still_told c.args.number) c.etherealize.ensures
