use Rattle.poad_cmd.proofs.Reopened.{opens_after}
use Rattle.poad_cmd.proofs.reopening.a_run_opens_with_what_was_put.Goals as goal

pub returns : goal.returns
returns c = opens_after
