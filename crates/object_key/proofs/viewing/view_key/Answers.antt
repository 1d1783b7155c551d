use Rattle.std.proofs.Common.{Ok, ap}
use Rattle.object_key.proofs.Keys.{seen_back}
use Rattle.object_key.proofs.Lent.{key_lends}
use Rattle.object_key.proofs.viewing.view_key.Goals as goal

pub returns-in-Some-clause-back : goal.returns-in-Some-clause-back
returns-in-Some-clause-back c = λ key fits is. ap (λ k. Ok k) (seen_back c.in-Some.key _ c.in-Some.ensures.spelled key fits is)

pub returns-in-Some-clause-lent : goal.returns-in-Some-clause-lent
returns-in-Some-clause-lent c = key_lends c.in-Some.key _ c.in-Some.ensures.spelled.1
