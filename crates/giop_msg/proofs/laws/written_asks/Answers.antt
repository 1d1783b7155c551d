use Rattle.giop_msg.proofs.Asking.{written_asks}
use Rattle.giop_msg.proofs.laws.written_asks.Goals as goal

pub returns : goal.returns
returns c = written_asks
