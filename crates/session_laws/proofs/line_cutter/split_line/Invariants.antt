use Rattle.std.proofs.Common.{◌≡◌, true, take}
use Rattle.text_words.specs.Cuts.{lacks}
use Rattle.session_laws.proofs.line_cutter.split_line.Given as goal

abbrev pub invariant-loop-i : goal.invariant-loop-i
invariant-loop-i l = lacks 10 (take l.i l.text) ≡ true
