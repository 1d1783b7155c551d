use Rattle.std.proofs.Common.{◌≡◌, drop}
use Rattle.history_standing.specs.Opening as opens
use Rattle.core_standing.specs.Seen.{seen}
use Rattle.core_standing.proofs.beginning.add_boots.Given as goal

abbrev pub invariant-loop-entry : goal.invariant-loop-entry
invariant-loop-entry l = opens.with_boots (drop l.entry-index l.adapters) (seen l.standing) ≡ opens.with_boots l.adapters (seen l.initial.standing)
