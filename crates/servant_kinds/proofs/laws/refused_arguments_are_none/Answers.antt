use Rattle.std.proofs.Common.{refl}
use Rattle.servant_kinds.proofs.Strings.{text_none}
use Rattle.servant_kinds.proofs.laws.refused_arguments_are_none.Goals as goal

pub returns-clause-text : goal.returns-clause-text
returns-clause-text c = λ body fault refused. text_none body body.base fault refl refused
