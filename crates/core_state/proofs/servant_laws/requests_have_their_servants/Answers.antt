use Rattle.core_state.proofs.RunsHave.{serving_has}
use Rattle.core_state.proofs.servant_laws.requests_have_their_servants.Goals as goal

pub returns : goal.returns
returns c = serving_has
