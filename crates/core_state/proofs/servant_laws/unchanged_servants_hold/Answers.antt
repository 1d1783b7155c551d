use Rattle.core_state.proofs.Writes.{unchanged_holds}
use Rattle.core_state.proofs.servant_laws.unchanged_servants_hold.Goals as goal

pub returns : goal.returns
returns c = unchanged_holds
