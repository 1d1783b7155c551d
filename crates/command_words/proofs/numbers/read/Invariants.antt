use Rattle.std.proofs.Common.{◌≡◌, ◌<◌, ◌^◌, drop}
use Rattle.command_words.specs.Numbers.{read_on}
use Rattle.command_words.proofs.numbers.read.Given as goal

abbrev pub invariant-loop-digit : goal.invariant-loop-digit
invariant-loop-digit l = (read_on l.n (drop l.digit-index l.digits) ≡ read_on 0 l.digits) × (l.n < 2 ^ 64)
