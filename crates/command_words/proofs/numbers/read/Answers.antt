use Rattle.std.proofs.Common.{arith}
use Rattle.command_words.proofs.Digits.{overflowed}
use Rattle.command_words.proofs.numbers.read.Goals as goal

pub returns-in_err-n : goal.returns-in_err-n
returns-in_err-n c =
    rw c.from_residual.ensures
    (overflowed _ c.loop-digit.n c.loop-digit.digit-index c.args.digits.now (omega arith) c.in_err-n.ensures c.loop-digit.invariant.0)
