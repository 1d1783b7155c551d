use Rattle.poad_answer.proofs.BuiltIn.{built_in_accepted}
use Rattle.poad_answer.proofs.configured.the_built_in_text_is_accepted.Goals as goal

pub returns : goal.returns
returns c = built_in_accepted
