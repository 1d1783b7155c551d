use Rattle.history_laws.proofs.laws.requests_reach_their_key.Goals as goal
use Rattle.history_laws.proofs.Keyed.{keyed_all}

pub returns : goal.returns
returns c = keyed_all
