use Rattle.ior_text.proofs.KeyStrings.{begins_front}
use Rattle.ior_text.proofs.key_reading.escaped.Goals as goal

pub returns : goal.returns
returns c = begins_front c.args.text.now c.in_ok-byte.byte c.in-len2-up.len_at_least c.in_ok-byte.ensures
