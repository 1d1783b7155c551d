use Rattle.giop_frame.proofs.Streams.{stream_alone}
use Rattle.giop_frame.proofs.laws.each_text_has_one_stream.Goals as goal

pub returns : goal.returns
returns c = stream_alone
