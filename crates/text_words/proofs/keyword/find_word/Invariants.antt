use Rattle.std.proofs.Common.{◌≡◌, drop}
use Rattle.text_words.specs.Keyword.{named_in}
use Rattle.text_words.proofs.keyword.find_word.Given as goal

abbrev pub invariant-loop-kind : goal.invariant-loop-kind
invariant-loop-kind g l = named_in g.K.Worded.text (drop l.kind-index l.all) l.word ≡ named_in g.K.Worded.text l.all l.word
