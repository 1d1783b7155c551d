use Rattle.std.proofs.Common.{◌≡◌, true, take}
use Rattle.text_words.specs.Cuts.{lacks}
use Rattle.text_words.proofs.cuts.split_front.Given as goal

abbrev pub invariant-loop-i : goal.invariant-loop-i
invariant-loop-i l = lacks l.separator (take l.i l.text) ≡ true
