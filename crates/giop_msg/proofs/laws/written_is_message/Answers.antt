use Rattle.giop_msg.proofs.Asking.{written_is_message}
use Rattle.giop_msg.proofs.laws.written_is_message.Goals as goal

pub returns : goal.returns
returns c = written_is_message
