use Rattle.naming_context.proofs.Arguments.{no_name_read}
use Rattle.naming_context.proofs.Results.{if_err}
use Rattle.naming_context.proofs.argument.read_name_alone.Goals as goal

pub returns-clause-bad : goal.returns-clause-bad
returns-clause-bad c = if_err c.read_name.result _ _ (λ fault none. no_name_read _ _ fault c.front.ensures none) c.read_name.ensures.bad
