use Rattle.giop_client.proofs.Paths.{one_said}
use Rattle.giop_client.proofs.laws.one_hop.Goals as goal

pub returns : goal.returns
returns c = one_said
