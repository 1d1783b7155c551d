use Rattle.std.proofs.Common.{◌≡◌, ◌++◌, take, drop}
use Rattle.ior_text.specs.Cut.{before, behind}
use Rattle.ior_text.proofs.cut.cut.Given as goal

abbrev pub invariant-loop-i : goal.invariant-loop-i
invariant-loop-i l =
    (before l.separator l.text ≡ take l.i l.text ++ before l.separator (drop l.i l.text))
    × (behind l.separator l.text ≡ behind l.separator (drop l.i l.text))
