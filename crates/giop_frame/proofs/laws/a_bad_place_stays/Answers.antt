use Rattle.giop_frame.specs.Stream.{start}
use Rattle.giop_frame.proofs.Streams.{bad_stays}
use Rattle.giop_frame.proofs.laws.a_bad_place_stays.Goals as goal

pub returns : goal.returns
returns c = λ limit. bad_stays limit start
