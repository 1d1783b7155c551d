use Rattle.std.proofs.Common.{sym, subst}
use Rattle.history_standing.specs.Trees.{In}
use Rattle.history_standing.proofs.Members.{in_back, in_front}
use Rattle.active_map.proofs.passing.Passing.put.Goals as goal

pub returns-in-Ok-clause-wider : goal.returns-in-Ok-clause-wider
returns-in-Ok-clause-wider c = λ n there.
    subst (In n) (sym c.in-Ok.ensures.ok) (in_front n c.args.number c.args.self.now.numbers.items there)

pub returns-in-Ok-clause-its : goal.returns-in-Ok-clause-its
returns-in-Ok-clause-its c = λ _. subst (In c.args.number) (sym c.in-Ok.ensures.ok) (in_back c.args.number c.args.self.now.numbers.items)

pub returns-in-Err-clause-wider : goal.returns-in-Err-clause-wider
returns-in-Err-clause-wider c = λ n there. subst (In n) (sym c.in-Err.ensures.err) there
