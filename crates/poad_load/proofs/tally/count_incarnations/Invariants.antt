use Rattle.std.proofs.Common.{◌≡◌, ◌≤◌, reverse, take}
use Rattle.poad_load.specs.Counts.{count, has_brought}
use Rattle.poad_load.proofs.tally.count_incarnations.Given as goal

-- those so far
abbrev pub invariant-loop-place : goal.invariant-loop-place
invariant-loop-place l = (l.count ≡ count has_brought (reverse (take l.place l.entries.items))) × (l.count ≤ l.place)
