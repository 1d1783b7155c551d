use Rattle.std.proofs.Common.{◌≡◌, ◌≤◌, reverse, take}
use Rattle.poad_load.specs.Counts.{count, is_etherealized}
use Rattle.poad_load.proofs.tally.count_etherealized.Given as goal

-- those so far
abbrev pub invariant-loop-place : goal.invariant-loop-place
invariant-loop-place l = (l.count ≡ count is_etherealized (reverse (take l.place l.entries.items))) × (l.count ≤ l.place)
