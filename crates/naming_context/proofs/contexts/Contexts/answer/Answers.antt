use Rattle.naming_context.proofs.Served.{no_target}
use Rattle.naming_context.proofs.contexts.Contexts.answer.Goals as goal

pub returns-in-None : goal.returns-in-None
returns-in-None c = no_target _ _ _ _ c.in-None.is
