use Rattle.giop_msg.proofs.Calls.{one_call}
use Rattle.giop_msg.proofs.laws.one_call.Goals as goal

pub returns : goal.returns
returns c = one_call
