use Rattle.std.proofs.Common.{◌≡◌, drop}
use Rattle.text_words.specs.Number.{read_on}
use Rattle.text_words.proofs.decimal.number_within.Given as goal

abbrev pub invariant-loop-byte : goal.invariant-loop-byte
invariant-loop-byte l = read_on l.n (drop l.byte-index l.word) ≡ read_on 0 l.word
