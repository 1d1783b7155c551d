use Rattle.std.proofs.Common.{sym, subst}
use Rattle.history_standing.specs.Trees.{In}
use Rattle.active_map.proofs.Covering.{entered, stays_with}
use Rattle.active_map.proofs.leaving.enter.Goals as goal

pub returns-in_err-insert-clause-wider : goal.returns-in_err-insert-clause-wider
returns-in_err-insert-clause-wider c = λ n there. subst (In n) (sym c.in_err-insert.ensures.err) there

pub returns-clause-wider : goal.returns-clause-wider
returns-clause-wider c = λ n there. subst (In n) (sym c.in_ok-insert.ensures.keys) (stays_with n c.args.number c.args.leaving.now.keys there)

pub returns-clause-ok : goal.returns-clause-ok
returns-clause-ok c = subst (In c.args.number) (sym c.in_ok-insert.ensures.keys) (entered c.args.number c.args.leaving.now.keys)
