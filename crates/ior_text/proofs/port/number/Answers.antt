use Rattle.std.proofs.Common.{arith}
use Rattle.ior_text.proofs.Numbers.{overflowed}
use Rattle.ior_text.proofs.port.number.Goals as goal

pub returns-in_err-n : goal.returns-in_err-n
returns-in_err-n c =
    rw c.from_residual.ensures
    (overflowed c.loop-byte.n c.loop-byte.byte-index c.args.word.now (omega arith) c.in_err-n.ensures c.loop-byte.invariant.0)
