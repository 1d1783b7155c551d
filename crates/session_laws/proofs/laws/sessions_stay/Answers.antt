use Rattle.session_laws.proofs.Staying.{session_stays}
use Rattle.session_laws.proofs.laws.sessions_stay.Goals as goal

pub returns : goal.returns
returns c = λ g peer log more conn text out end runs none session. session_stays g peer conn text out end log more runs none session
