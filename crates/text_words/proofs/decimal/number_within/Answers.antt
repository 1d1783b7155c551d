use Rattle.std.proofs.Common.{refl, arith}
use Rattle.text_words.proofs.Numbers.{overflowed}
use Rattle.text_words.proofs.decimal.number_within.Goals as goal

pub returns-in_err-n : goal.returns-in_err-n
returns-in_err-n c =
    rw c.from_residual.ensures
    (rw (overflowed c.args.most c.loop-byte.n c.loop-byte.byte-index c.args.word.now (omega arith) (omega arith) c.in_err-n.ensures c.loop-byte.invariant)
    (record { value = refl; text = tt; bound = tt }))
