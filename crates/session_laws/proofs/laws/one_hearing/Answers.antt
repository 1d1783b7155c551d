use Rattle.session_laws.proofs.OneHearing.{heard_once}
use Rattle.session_laws.proofs.laws.one_hearing.Goals as goal

pub returns : goal.returns
returns c = heard_once
