use Rattle.giop_frame.proofs.GoingOn.{framer_goes_on}
use Rattle.giop_frame.proofs.laws.a_framer_goes_on.Goals as goal

pub returns : goal.returns
returns c = framer_goes_on
