use Rattle.std.proofs.Common.{◌≡◌, ◌++◌, drop}
use Rattle.text_words.specs.Path.{below_root}
use Rattle.text_words.proofs.adapter_path.names_text.Given as goal

abbrev pub invariant-loop-name : goal.invariant-loop-name
invariant-loop-name l = l.text.items ++ below_root (drop l.name-index l.names) ≡ below_root l.names
