use Rattle.std.proofs.Common.{sym, ◌∙◌}
use Rattle.history_standing.proofs.Finding.{path_same}
use Rattle.core_standing.proofs.keys.path_met.Goals as goal

pub returns-then-is : goal.returns-then-is
returns-then-is c = path_same c.as_slice-names.result.now c.args.path.now (sym c.is.ensures ∙ c.if-is.true)
