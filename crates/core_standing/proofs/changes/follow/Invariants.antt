use Rattle.std.proofs.Common.{◌≡◌, reverse, take}
use Rattle.history_standing.specs.Opening as opens
use Rattle.history_standing.specs.Changes as changes
use Rattle.core_standing.specs.Seen.{seen}
use Rattle.core_standing.proofs.changes.follow.Given as goal

abbrev pub invariant-loop-i : goal.invariant-loop-i
invariant-loop-i l =
    seen l.initial.standing ≡ opens.opening l.config l.run
    → seen l.standing ≡ changes.standing l.config l.run (reverse (take l.i l.history))
