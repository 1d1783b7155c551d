use Rattle.std.proofs.Common.{◌≡◌, take}
use Rattle.journal_entries.proofs.entries.Entries.to_vec.Given as goal

abbrev pub invariant-loop-place : goal.invariant-loop-place
invariant-loop-place l = l.entries.items ≡ take l.place l.self.items
