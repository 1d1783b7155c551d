use Rattle.giop_client.proofs.Paths.{along}
use Rattle.giop_client.proofs.laws.links_are_a_front_of_the_path.Goals as goal

pub returns : goal.returns
returns c = along
