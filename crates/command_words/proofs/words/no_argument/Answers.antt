use Rattle.std.proofs.Common.{arith}
use Rattle.command_words.proofs.Unargued.{many_argued}
use Rattle.command_words.proofs.words.no_argument.Goals as goal

pub returns-in_default-clause-bad : goal.returns-in_default-clause-bad
returns-in_default-clause-bad c e = many_argued c.args.words.now (omega (arith, c.in_default.len_at_least))
