use Rattle.std.proofs.Common.{sym, subst}
use Rattle.history_standing.specs.Trees.{In}
use Rattle.active_map.proofs.Covering.{stays_without}
use Rattle.active_map.proofs.leaving.strike.Goals as goal

pub returns-clause-others : goal.returns-clause-others
returns-clause-others c = λ n there other. subst (In n) (sym c.remove-was.ensures.keys) (stays_without n c.args.number c.args.leaving.now.keys there other)
