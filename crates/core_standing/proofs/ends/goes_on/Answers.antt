use Rattle.std.proofs.Common.{not, sym, ap}
use Rattle.core_standing.proofs.ends.goes_on.Goals as goal

pub returns-then-lives_itself : goal.returns-then-lives_itself
returns-then-lives_itself c = λ stood. sym (ap not (c.lives_itself.ensures c.if-lives_itself.true stood))
