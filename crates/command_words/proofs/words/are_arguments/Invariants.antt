use Rattle.std.proofs.Common.{◌≡◌, false, is_some, map, string_bytes, drop}
use Rattle.command_words.specs.Words.{arguments_of}
use Rattle.command_words.proofs.words.are_arguments.Given as goal

abbrev pub invariant-loop-word : goal.invariant-loop-word
invariant-loop-word l = is_some (arguments_of l.marked (map string_bytes (drop l.word-index l.words))) ≡ is_some (arguments_of false (map string_bytes l.words))
