use Rattle.giop_msg.proofs.Saying.{each_says}
use Rattle.giop_msg.proofs.laws.each_says.Goals as goal

pub returns : goal.returns
returns c = each_says
